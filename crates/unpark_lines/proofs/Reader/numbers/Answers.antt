-- `unpark_lines::Reader::numbers` meets its contract: one after another is read and stored. Assumes nothing.
use Rattle.std.proofs.Common.{◌≡◌, true, false, length, get_or, replicate, arith, rules}
use Rattle.std.proofs.lemmas.List.{length-replicate}
use Rattle.rules.specs.Texts.{found, wrong, expect, numbers}
use Rattle.unpark_lines.specs.Answers.{kind_field}
use Rattle.unpark_lines.proofs.Going.{going_start, numbers_again, numbers_wrong, numbers_unended, numbers_end}
use Rattle.unpark_lines.proofs.Reader.numbers.Goals as goal

pub loop-i-init : goal.loop-i-init
loop-i-init g c = going_start (numbers c.args.flags.now c.args.self.now) (replicate g.row.N 0)

pub returns-in_err-held : goal.returns-in_err-held
returns-in_err-held g c =
    let q : wrong ≡ kind_field (get_or c.args.flags.now c.loop-i.i false) c.loop-i.self = rw c.in_err-held.was at c.fitting.ensures in
    let l : length c.args.flags.now ≡ g.row.N = search rules in
    let e = numbers_wrong c.args.flags.now c.loop-i.i c.loop-i.self c.loop-i.invariant (omega arith) q in
    search rules

pub loop-i-preserved : goal.loop-i-preserved
loop-i-preserved g c =
    let q : found c.in_ok-held.field-0 c.fitting.new.self ≡ kind_field (get_or c.args.flags.now c.loop-i.i false) c.loop-i.self = rw c.in_ok-held.was at c.fitting.ensures in
    let l : length c.args.flags.now ≡ g.row.N = search rules in
    numbers_again c.args.flags.now c.loop-i.i c.loop-i.self c.loop-i.invariant (omega arith) c.in_ok-held.field-0 c.fitting.new.self q

pub returns-in_err-line_end : goal.returns-in_err-line_end
returns-in_err-line_end g c =
    let q : wrong ≡ expect 10 c.loop-i.self = rw c.in_err-line_end.was at c.line_end.ensures in
    let l : length c.args.flags.now ≡ g.row.N = search rules in
    let e = numbers_unended c.args.flags.now c.loop-i.i c.loop-i.self c.loop-i.invariant (omega arith) q in
    search rules

pub returns : goal.returns
returns g c =
    let q : found true c.line_end.new.self ≡ expect 10 c.loop-i.self = rw c.in_ok-line_end.was at c.line_end.ensures in
    let l : length c.args.flags.now ≡ g.row.N = search rules in
    let i : g.row.N ≡ c.loop-i.i = omega arith in
    numbers_end c.args.flags.now c.loop-i.i c.loop-i.self c.loop-i.invariant (omega arith) (rw length-replicate i) c.line_end.new.self q
