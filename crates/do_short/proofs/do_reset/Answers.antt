-- `do_short::do_reset` meets its contract. Assumes nothing.
use Rattle.do_short.proofs.Short.{reset_deed}
use borrow.Author.Rules.{rules}
use Rattle.do_short.proofs.do_reset.Goals as goal

pub returns : goal.returns
returns c = reset_deed _ _ _ _ _ _ c.fresh_core.ensures c.pen_of.ensures (search rules)
