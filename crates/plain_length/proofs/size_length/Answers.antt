-- `plain_length::size_length` meets its contract: with no places there is no point. Assumes nothing.
use borrow.Author.Rules.{rules}
use Rattle.plain_length.proofs.Counting.{counted_whole, counted_point}
use Rattle.plain_length.proofs.size_length.Goals as goal

pub returns-then-places-eq0 : goal.returns-then-places-eq0
returns-then-places-eq0 c = search (counted_whole, rules)

pub returns : goal.returns
returns c = search (counted_point, rules)
