-- `do_short::do_code_byte` meets its contract. Assumes nothing.
use Rattle.do_short.proofs.Short.{code_byte_lem, code_other}
use Rattle.do_short.proofs.do_code_byte.Goals as goal

pub returns-in-Some : goal.returns-in-Some
returns-in-Some c = code_byte_lem _ _ _ _ _ _ _ c.code_of.ensures c.in-Some.is c.do_code.ensures

pub returns-in-None : goal.returns-in-None
returns-in-None c = code_other _ _ _ _ _ _ c.code_of.ensures c.in-None.is c.kept.ensures
