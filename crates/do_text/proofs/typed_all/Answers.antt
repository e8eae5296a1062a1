-- `do_text::typed_all` meets its contract. Assumes nothing.
use Rattle.do_text.proofs.Typing.{typing_first, typing_more, typing_ends}
use borrow.Author.Rules.{rules}
use Rattle.do_text.proofs.typed_all.Goals as goal

pub loop-b-init : goal.loop-b-init
loop-b-init c = search (typing_first, rules)

pub loop-b-preserved : goal.loop-b-preserved
loop-b-preserved c = search (typing_more, rules)

pub returns : goal.returns
returns c = search (typing_ends, rules)
