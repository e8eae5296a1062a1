-- `row_piece::clear_from` meets its contract. Assumes nothing.
use borrow.Author.Rules.{rules}
use Rattle.row_piece.proofs.Clips.{zeroed}
use Rattle.row_piece.proofs.clear_from.Goals as goal

pub returns : goal.returns
returns c = search (zeroed, rules)
