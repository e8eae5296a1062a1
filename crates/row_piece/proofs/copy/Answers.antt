-- `row_piece::copy` meets its contract: the loop's invariant: k of the bytes that fit are stored. Assumes nothing.
use borrow.Author.Rules.{rules}
use Rattle.row_piece.proofs.Clips.{copying_none, copying_more, copying_end}
use Rattle.row_piece.proofs.copy.Goals as goal

pub loop-k-init : goal.loop-k-init
loop-k-init c = search (copying_none, rules)

pub loop-k-preserved : goal.loop-k-preserved
loop-k-preserved c = search (copying_more, rules)

pub returns : goal.returns
returns c = search (copying_end, rules)
