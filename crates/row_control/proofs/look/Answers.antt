-- `row_control::look` meets its contract. Assumes nothing.
use borrow.Author.Rules.{rules}
use Rattle.row_control.proofs.Whole.{look_pairs, look_all}
use Rattle.row_control.proofs.look.Goals as goal

pub returns-then-method-eq1 : goal.returns-then-method-eq1
returns-then-method-eq1 c = search (look_pairs, rules)

pub returns-else-method-eq1 : goal.returns-else-method-eq1
returns-else-method-eq1 c = search (look_all, rules)
