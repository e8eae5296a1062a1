-- `row_decode::row_by` meets its contract: a law for each method. Assumes nothing.
use borrow.Author.Rules.{rules}
use Rattle.row_decode.proofs.Rows.{zeroth_row, first_row, second_row, third_row}
use Rattle.row_decode.proofs.row_by.Goals as goal

pub returns-in-0 : goal.returns-in-0
returns-in-0 c = search (zeroth_row, rules)

pub returns-in-1 : goal.returns-in-1
returns-in-1 c = search (first_row, rules)

pub returns-in-2 : goal.returns-in-2
returns-in-2 c = search (second_row, rules)

pub returns-in_default : goal.returns-in_default
returns-in_default c = search (third_row, rules)
