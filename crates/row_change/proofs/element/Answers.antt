-- `row_change::element` meets its contract: a law for each kind of control byte. Assumes nothing.
use borrow.Author.Rules.{rules}
use Rattle.row_change.proofs.Changes.{near_on, far_on}
use Rattle.row_change.proofs.element.Goals as goal

pub returns-then-c-ne31 : goal.returns-then-c-ne31
returns-then-c-ne31 c = search (near_on, rules)

pub returns : goal.returns
returns c = search (far_on, rules)
