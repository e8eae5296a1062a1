-- `row_decode::by_bytes` meets its contract. Assumes nothing.
use borrow.Author.Rules.{rules}
use Rattle.row_decode.proofs.Rows.{plain_row}
use Rattle.row_decode.proofs.by_bytes.Goals as goal

pub returns : goal.returns
returns c = search (plain_row, rules)
