-- `do_short::do_half_line` meets its contract. Assumes nothing.
use Rattle.do_short.proofs.Short.{half_deed}
use Rattle.do_short.proofs.do_half_line.Goals as goal

pub returns : goal.returns
returns c = half_deed _ _ _ _ _ c.half_line-at.ensures c.kept.ensures
