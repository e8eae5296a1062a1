-- `do_code::code_feed` meets its contract. Assumes nothing.
use Rattle.do_code.proofs.Moves.{fed}
use borrow.Author.Rules.{rules}
use Rattle.do_code.proofs.code_feed.Goals as goal

pub returns : goal.returns
returns c = search (fed, rules)
