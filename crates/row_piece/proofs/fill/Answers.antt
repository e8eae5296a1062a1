-- `row_piece::fill` meets its contract: the loop's invariant: k of the places that there are are filled. Assumes nothing.
use borrow.Author.Rules.{rules}
use Rattle.row_piece.proofs.Clips.{filling_none, filling_more, filling_end}
use Rattle.row_piece.proofs.fill.Goals as goal

pub loop-k-init : goal.loop-k-init
loop-k-init c = search (filling_none, rules)

pub loop-k-preserved : goal.loop-k-preserved
loop-k-preserved c = search (filling_more, rules)

pub returns : goal.returns
returns c = search (filling_end, rules)
