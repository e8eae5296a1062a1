-- `row_change::change` meets its contract: the loop's invariant: from here on the same is left to do. The measure is what is left of the payload. Assumes nothing.
use borrow.Author.Rules.{rules}
use Rattle.row_change.proofs.Changes.{changing_none, changing_more, changing_past, changing_end}
use Rattle.row_change.proofs.change.Goals as goal

pub loop-p-init : goal.loop-p-init
loop-p-init c = search (changing_none, rules)

pub loop-p-preserved : goal.loop-p-preserved
loop-p-preserved c = search (changing_more, rules)

pub returns-else-p-row : goal.returns-else-p-row
returns-else-p-row c = search (changing_past, rules)

pub returns-after-loop-p : goal.returns-after-loop-p
returns-after-loop-p c = search (changing_end, rules)
