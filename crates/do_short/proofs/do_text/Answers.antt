-- `do_short::do_text` meets its contract. Assumes nothing.
use Rattle.do_short.proofs.Short.{text_deed}
use Rattle.do_short.proofs.do_text.Goals as goal

pub returns : goal.returns
returns c = text_deed _ _ _ _ _ _ c.typed_pen.ensures c.kept.ensures
