-- `do_code::code_back` meets its contract. Assumes nothing.
use Rattle.do_code.proofs.Moves.{backed}
use borrow.Author.Rules.{rules}
use Rattle.do_code.proofs.code_back.Goals as goal

pub returns : goal.returns
returns c = search (backed, rules)
