-- `do_code::code_page` meets its contract. Assumes nothing.
use Rattle.do_code.proofs.Moves.{paged}
use borrow.Author.Rules.{rules}
use Rattle.do_code.proofs.code_page.Goals as goal

pub returns : goal.returns
returns c = search (paged, rules)
