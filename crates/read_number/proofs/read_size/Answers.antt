-- `read_number::read_size` meets its contract: a whole number held at 32,768 gives the same size. Assumes nothing.
use borrow.Author.Rules.{rules}
use Rattle.read_number.proofs.Reading.{size_took}
use Rattle.read_number.proofs.read_size.Goals as goal

pub returns : goal.returns
returns c = search (size_took, rules)
