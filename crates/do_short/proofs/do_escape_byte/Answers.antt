-- `do_short::do_escape_byte` meets its contract. Assumes nothing.
use Rattle.do_short.proofs.Short.{escape_byte_lem, escape_other}
use Rattle.do_short.proofs.do_escape_byte.Goals as goal

pub returns-in-Some : goal.returns-in-Some
returns-in-Some c = escape_byte_lem _ _ _ _ _ _ _ _ _ c.escape_of.ensures c.in-Some.is c.do_escape.ensures

pub returns-in-None : goal.returns-in-None
returns-in-None c = escape_other _ _ _ _ _ _ _ c.escape_of.ensures c.in-None.is c.kept.ensures
