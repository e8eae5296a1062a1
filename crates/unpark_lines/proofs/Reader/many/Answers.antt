-- `unpark_lines::Reader::many` meets its contract: one after another is read and stored. Assumes nothing.
use Rattle.std.proofs.Common.{◌≡◌, ap, replicate, arith, rules}
use Rattle.std.proofs.lemmas.List.{length-replicate}
use Rattle.rules.specs.Texts.{found, wrong, many}
use Rattle.unpark_lines.specs.Answers.{stored}
use Rattle.unpark_lines.proofs.Going.{many_start, many_again, many_past, many_wrong, many_end}
use Rattle.unpark_lines.proofs.Reader.many.Goals as goal
use Rattle.unpark_lines.proofs.Reader.many.Goals.{then-i, else-i}

pub loop-i-init : goal.loop-i-init
loop-i-init g c = many_start g.T.Repeated.form c.args.n c.args.self.now (replicate g.row.N c.args.blank)

pub returns-in_err-one : goal.returns-in_err-one
returns-in_err-one g c =
    let q : wrong ≡ g.T.Repeated.form c.loop-i.self = rw c.in_err-one.was at c.read.ensures in
    let e = many_wrong g.T.Repeated.form c.args.n c.loop-i.i c.loop-i.self c.loop-i.invariant (omega arith) q in
    let z : wrong ≡ stored (replicate g.row.N c.args.blank) (many g.T.Repeated.form c.args.n c.args.self.now) = ap (stored (replicate g.row.N c.args.blank)) e in
    search rules

pub loop-i-preserved : goal.loop-i-preserved
loop-i-preserved g c =
    let q : found c.in_ok-one.one c.read.new.reader ≡ g.T.Repeated.form c.loop-i.self = rw c.in_ok-one.was at c.read.ensures in
    elim c.if-i.branch [
      | then-i w ↦ rw w.held-is (many_again g.T.Repeated.form c.args.n c.loop-i.i c.loop-i.self c.loop-i.invariant (omega arith) c.in_ok-one.one c.read.new.reader q)
      | else-i w ↦ rw w.held-is (many_past g.T.Repeated.form c.args.n c.loop-i.i c.loop-i.self c.loop-i.invariant (omega arith) c.in_ok-one.one c.read.new.reader q (rw length-replicate (omega arith)))
    ]

pub returns : goal.returns
returns g c = many_end g.T.Repeated.form c.args.n c.loop-i.i c.loop-i.self c.loop-i.invariant (omega arith)
