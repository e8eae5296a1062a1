-- `do_item::do_command` meets its contract. Assumes nothing.
use Rattle.do_item.proofs.Items.{command_told, command_unknown}
use Rattle.do_item.proofs.do_command.Goals as goal

pub returns-in-Valued : goal.returns-in-Valued
returns-in-Valued c = command_told _ _ _ _ _ _ _ _ _ _ _ c.in-Valued.is (c.do_valued.ensures _ _)

pub returns-in-Method : goal.returns-in-Method
returns-in-Method c = command_told _ _ _ _ _ _ _ _ _ _ _ c.in-Method.is (c.do_method.ensures _ _ _ _)

pub returns-in-Print : goal.returns-in-Print
returns-in-Print c = command_told _ _ _ _ _ _ _ _ _ _ _ c.in-Print.is (c.do_print.ensures _ _)

pub returns-in-Unknown : goal.returns-in-Unknown
returns-in-Unknown c = command_unknown _ _ _ _ _ _ _ _ c.in-Unknown.is c.kept.ensures
