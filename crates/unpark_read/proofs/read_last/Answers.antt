-- `unpark_read::read_last` meets its contract. Assumes nothing.
use Rattle.std.proofs.Common.{◌≡◌, true, false, get_or, replicate, ◌/◌, ◌∙◌, rules}
use Rattle.common.specs.Lists.{is_nil}
use Rattle.rules.specs.Texts.{found, wrong, row}
use Rattle.unpark_lines.specs.Answers.{stored}
use Rattle.unpark_read.specs.Held.{judged_read}
use Rattle.unpark_read.proofs.Reading.{no_row, more, whole, formed}
use Rattle.unpark_read.proofs.read_last.Goals as goal

pub returns-in_err-seed : goal.returns-in_err-seed
unfolding judged_read
returns-in_err-seed c =
    let q : wrong ≡ stored (replicate 600 0) (row (get_or c.args.n.now 0 0 / 8) c.args.reader.now) = rw c.in_err-seed.was at c.row.ensures in
    let z = no_row c.args.n.now c.args.stack (row (get_or c.args.n.now 0 0 / 8) c.args.reader.now) q in
    search rules

pub returns-then-not-is_over : goal.returns-then-not-is_over
unfolding judged_read
returns-then-not-is_over c =
    let q : found c.in_ok-seed.seed c.row.new.self ≡ stored (replicate 600 0) (row (get_or c.args.n.now 0 0 / 8) c.args.reader.now) = rw c.in_ok-seed.was at c.row.ensures in
    let n : is_nil c.row.new.self ≡ false = search rules in
    more c.args.n.now c.args.stack c.in_ok-seed.seed c.row.new.self (row (get_or c.args.n.now 0 0 / 8) c.args.reader.now) q n

pub returns : goal.returns
returns c =
    let q : found c.in_ok-seed.seed c.row.new.self ≡ stored (replicate 600 0) (row (get_or c.args.n.now 0 0 / 8) c.args.reader.now) = rw c.in_ok-seed.was at c.row.ensures in
    let n : is_nil c.row.new.self ≡ true = search rules in
    formed c.args.n.now c.args.stack c.in_ok-seed.seed c.state_of.result c.state_of.ensures
    ∙ whole c.args.n.now c.args.stack c.in_ok-seed.seed c.row.new.self (row (get_or c.args.n.now 0 0 / 8) c.args.reader.now) q n
