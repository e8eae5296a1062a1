-- `do_code::code_return` meets its contract. Assumes nothing.
use Rattle.do_code.proofs.Moves.{returned}
use borrow.Author.Rules.{rules}
use Rattle.do_code.proofs.code_return.Goals as goal

pub returns : goal.returns
returns c = search (returned, rules)
