-- `row_decode::by_packed` meets its contract: what the look from where the row was filled said chooses between it and zeros. Assumes nothing.
use borrow.Author.Rules.{rules}
use Rattle.row_decode.proofs.Rows.{once_whole, once_damaged}
use Rattle.row_decode.proofs.by_packed.Goals as goal

pub returns-then-not-look_from : goal.returns-then-not-look_from
returns-then-not-look_from c = search (once_damaged, rules)

pub returns : goal.returns
returns c = search (once_whole, rules)
