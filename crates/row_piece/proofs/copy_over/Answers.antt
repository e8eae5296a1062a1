-- `row_piece::copy_over` meets its contract. Assumes nothing.
use borrow.Author.Rules.{rules}
use Rattle.row_piece.proofs.Texts.{over_just}
use Rattle.row_piece.proofs.copy_over.Goals as goal

pub returns-then-s-i : goal.returns-then-s-i
returns-then-s-i c = search (over_just, rules)
