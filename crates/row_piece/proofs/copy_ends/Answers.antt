-- `row_piece::copy_ends` meets its contract. Assumes nothing.
use borrow.Author.Rules.{rules}
use Rattle.row_piece.proofs.Texts.{ends}
use Rattle.row_piece.proofs.copy_ends.Goals as goal

pub returns : goal.returns
returns g c = search (ends, rules)
