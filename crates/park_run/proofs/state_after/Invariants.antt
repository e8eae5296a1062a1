-- `park_run::state_after` meets its contract. The invariant: with the items that are still allowed it is the state asked for; the measure: those items.
-- Assumes nothing.
use Rattle.dot_page.specs.Zeros.{FirstZero}
use Rattle.park_run.proofs.Runs.{Doing}
use Rattle.park_run.proofs.state_after.Given as goal

abbrev pub invariant-loop-o : goal.invariant-loop-o
invariant-loop-o l = Doing l.w l.h l.s l.initial.page l.page l.items l.state l.place l.more × FirstZero l.zeros l.page

abbrev pub decreases-loop-o : goal.decreases-loop-o
decreases-loop-o l = l.more
