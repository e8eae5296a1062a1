-- `plain_length::value_length` meets its contract: a sign is one byte more. Assumes nothing.
use borrow.Author.Rules.{rules}
use Rattle.plain_length.proofs.Counting.{counted_absolute, counted_relative}
use Rattle.plain_length.proofs.value_length.Goals as goal

pub returns-in-Absolute : goal.returns-in-Absolute
returns-in-Absolute c = search (counted_absolute, rules)

pub returns-in-Relative : goal.returns-in-Relative
returns-in-Relative c = search (counted_relative, rules)
