-- `row_fill::fill_row` meets its contract: the loop's invariant: the row is filled up to a place, and from here on the same is left to do. The measure is what is left of the payload. Assumes nothing.
use borrow.Author.Rules.{rules}
use Rattle.row_fill.proofs.Filling.{filling_none, filling_more, filling_past, filling_end}
use Rattle.row_fill.proofs.fill_row.Goals as goal

pub loop-p-init : goal.loop-p-init
loop-p-init c = search (filling_none, rules)

pub returns-then-row-p : goal.returns-then-row-p
returns-then-row-p c = search (filling_past, rules)

pub loop-p-preserved : goal.loop-p-preserved
loop-p-preserved c = search (filling_more, rules)

pub returns : goal.returns
returns c = search (filling_end, rules)
