-- `row_piece::copy_blocks` meets its contract: the loop's invariant: k of the bytes are copied. Assumes nothing.
use borrow.Author.Rules.{rules}
use Rattle.row_piece.proofs.Texts.{blocks_more, blocks_end}
use Rattle.row_piece.proofs.copy_blocks.Goals as goal

pub loop-k-preserved : goal.loop-k-preserved
loop-k-preserved c = search (blocks_more, rules)

pub returns : goal.returns
returns c = search (blocks_end, rules)
