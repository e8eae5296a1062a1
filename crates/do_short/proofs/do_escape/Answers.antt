-- `do_short::do_escape` meets its contract. Assumes nothing.
use Rattle.do_short.proofs.Short.{escape_told}
use Rattle.do_short.proofs.do_escape.Goals as goal

pub returns-in-Reset : goal.returns-in-Reset
returns-in-Reset c = escape_told _ _ _ _ _ _ _ _ c.in-Reset.is (c.do_reset.ensures _)

pub returns-in-ClearMargins : goal.returns-in-ClearMargins
returns-in-ClearMargins c = escape_told _ _ _ _ _ _ _ _ c.in-ClearMargins.is (c.do_margins.ensures _)

pub returns-in-HalfLine : goal.returns-in-HalfLine
returns-in-HalfLine c = escape_told _ _ _ _ _ _ _ _ c.in-HalfLine.is (c.do_half_line.ensures _)
