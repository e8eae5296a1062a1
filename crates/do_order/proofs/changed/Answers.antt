-- `do_order::changed` meets its contract: the answers are of the commands whose change is told here; what the others change is told by their own
-- functions. Assumes nothing.
use Rattle.rules.specs.Effects.{barred, effect}
use Rattle.do_change.specs.Changed.{change_of, change_by}
use borrow.Author.Rules.{rules}
use Rattle.do_order.proofs.changed.Goals as goal

pub returns-in-Column : goal.returns-in-Column
unfolding change_of change_by barred effect
returns-in-Column c = search rules

pub returns-in-DecipointAcross : goal.returns-in-DecipointAcross
unfolding change_of change_by barred effect
returns-in-DecipointAcross c = search rules

pub returns-in-DotAcross : goal.returns-in-DotAcross
unfolding change_of change_by barred effect
returns-in-DotAcross c = search rules

pub returns-in-DecipointDown : goal.returns-in-DecipointDown
unfolding change_of change_by barred effect
returns-in-DecipointDown c = search rules

pub returns-in-DotDown : goal.returns-in-DotDown
unfolding change_of change_by barred effect
returns-in-DotDown c = search rules

pub returns-in-Line : goal.returns-in-Line
unfolding change_of change_by barred effect
returns-in-Line c = search rules
