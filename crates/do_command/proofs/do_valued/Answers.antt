-- `do_command::do_valued` meets its contract. Assumes nothing.
use Rattle.do_command.proofs.Commands.{negative_deed, valued_deed, change_placed, made_barred}
use Rattle.do_command.proofs.do_valued.Goals as goal

pub returns-then-is_negative : goal.returns-then-is_negative
returns-then-is_negative c = negative_deed _ _ _ _ _ _ _ c.is_negative.ensures c.if-is_negative.true c.kept.ensures _

pub make-requires : goal.make-requires
make-requires c = change_placed _ _ _ _ _ _ _ _ _ c.requires c.changed.ensures c.in-Ok.is

pub returns-in-Ok : goal.returns-in-Ok
returns-in-Ok c = valued_deed _ _ _ _ _ _ _ _ _ _ _ _ c.is_negative.ensures c.if-is_negative.false c.used_value.ensures c.requires c.changed.ensures c.in-Ok.is c.make.ensures

pub returns-in-Err : goal.returns-in-Err
returns-in-Err c = valued_deed _ _ _ _ _ _ _ _ _ _ _ _ c.is_negative.ensures c.if-is_negative.false c.used_value.ensures c.requires c.changed.ensures c.in-Err.is (made_barred _ _ _ _ _ c.kept-in-Err.ensures)
