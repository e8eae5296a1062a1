-- `row_decode::by_changes` meets its contract: what the first look said chooses between the changed row and zeros. Assumes nothing.
use borrow.Author.Rules.{rules}
use Rattle.row_decode.proofs.Rows.{whole_row, damaged_row}
use Rattle.row_decode.proofs.by_changes.Goals as goal

pub returns-then-not-look : goal.returns-then-not-look
returns-then-not-look c = search (damaged_row, rules)

pub returns : goal.returns
returns c = search (whole_row, rules)
