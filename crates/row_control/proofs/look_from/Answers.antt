-- `row_control::look_from` meets its contract: the loop's invariant: the payload is whole where it is whole from here on. The measure is what is left of it. Assumes nothing.
use borrow.Author.Rules.{rules}
use Rattle.row_control.proofs.Whole.{look_again, look_end}
use Rattle.row_control.proofs.look_from.Goals as goal

pub loop-i-preserved : goal.loop-i-preserved
loop-i-preserved c = search (look_again, rules)

pub returns : goal.returns
returns c = search (look_end, rules)
