-- `row_fill::run` meets its contract. Assumes nothing.
use borrow.Author.Rules.{rules}
use Rattle.row_fill.proofs.Filling.{run_none, run_some}
use Rattle.row_fill.proofs.run.Goals as goal

pub returns-then-p-s : goal.returns-then-p-s
returns-then-p-s c = search (run_some, rules)

pub returns : goal.returns
returns c = search (run_none, rules)
