-- `do_command::do_print` meets its contract. Assumes nothing.
use Rattle.do_command.proofs.Commands.{print_barred, print_deed}
use Rattle.do_command.proofs.do_print.Goals as goal

pub returns-then-whole_negative : goal.returns-then-whole_negative
returns-then-whole_negative c = print_barred _ _ _ _ _ _ _ c.whole_negative.ensures c.if-whole_negative.true c.kept.ensures

pub returns : goal.returns
returns c = print_deed _ _ _ _ _ _ _ _ c.whole_negative.ensures c.if-whole_negative.false c.typed_all-used.ensures c.kept-2.ensures
