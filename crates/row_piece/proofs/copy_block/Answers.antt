-- `row_piece::copy_block` meets its contract. Assumes nothing.
use borrow.Author.Rules.{rules}
use Rattle.row_piece.proofs.Clips.{replaced_from}
use Rattle.row_piece.proofs.copy_block.Goals as goal

pub returns : goal.returns
returns g c = search (replaced_from, rules)
