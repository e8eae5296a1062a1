-- `do_short::do_margins` meets its contract. Assumes nothing.
use Rattle.do_short.proofs.Short.{margins_deed}
use Rattle.do_short.proofs.do_margins.Goals as goal

pub returns : goal.returns
returns c = margins_deed _ _ _ _ _ c.clear_margins-layout.ensures c.kept.ensures
