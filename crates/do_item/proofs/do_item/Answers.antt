-- `do_item::do_item` meets its contract. Assumes nothing.
use Rattle.do_item.proofs.Items.{item_command}
use Rattle.do_item.proofs.do_item.Goals as goal

pub returns-in_default : goal.returns-in_default
returns-in_default c = c.do_bytes.ensures _ _

pub returns : goal.returns
returns c = item_command _ _ _ _ _ _ _ _ _ _ _ _ _ c.in-Command.is c.do_command.ensures
