-- `do_short::do_code` meets its contract. Assumes nothing.
use Rattle.do_short.proofs.Short.{code_deed}
use Rattle.do_short.proofs.do_code.Goals as goal

pub returns : goal.returns
returns c = code_deed _ _ _ _ _ _ _ _ c.coded_at.ensures c.code_ends_page-ended.ensures c.used_behind.ensures c.kept.ensures
