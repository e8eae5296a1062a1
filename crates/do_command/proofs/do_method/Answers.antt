-- `do_command::do_method` meets its contract. Assumes nothing.
use Rattle.do_command.proofs.Commands.{method_barred, method_none, method_deed}
use Rattle.do_command.proofs.do_method.Goals as goal

pub returns-then-whole_negative : goal.returns-then-whole_negative
returns-then-whole_negative c = method_barred _ _ _ _ c.whole_negative.ensures _ c.if-whole_negative.true c.kept.ensures

pub returns-then-n-gt3 : goal.returns-then-n-gt3
returns-then-n-gt3 c = method_none _ _ _ _ c.whole_negative.ensures _ _ c.if-whole_negative.false c.whole_part-n.ensures.0 c.if-n-gt3.true c.kept-then-n-gt3.ensures

pub returns : goal.returns
returns c = method_deed _ _ _ _ c.whole_negative.ensures _ _ c.if-whole_negative.false c.whole_part-n.ensures.0 c.if-n-gt3.false c.kept-2.ensures
