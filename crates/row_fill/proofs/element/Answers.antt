-- `row_fill::element` meets its contract: a law for each kind of control byte. Assumes nothing.
use borrow.Author.Rules.{rules}
use Rattle.row_fill.proofs.Filling.{pair_on, literal_on, nothing_on, run_on}
use Rattle.row_fill.proofs.element.Goals as goal

pub returns-then-method-eq1 : goal.returns-then-method-eq1
returns-then-method-eq1 c = search (pair_on, rules)

pub returns-then-c-lt128 : goal.returns-then-c-lt128
returns-then-c-lt128 c = search (literal_on, rules)

pub returns-then-c : goal.returns-then-c
returns-then-c c = search (nothing_on, rules)

pub returns : goal.returns
returns c = search (run_on, rules)
