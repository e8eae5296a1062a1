-- `row_decode::by_pairs` meets its contract: what the first look said chooses between the filled row and zeros. Assumes nothing.
use borrow.Author.Rules.{rules}
use Rattle.row_decode.proofs.Rows.{pairs_filled, damaged_row}
use Rattle.row_decode.proofs.by_pairs.Goals as goal

pub returns-then-not-look : goal.returns-then-not-look
returns-then-not-look c = search (damaged_row, rules)

pub returns : goal.returns
returns c = search (pairs_filled, rules)
