-- `dot_ink::used_by` meets its contract: what is left is the row's front, and behind it the row has no ink. Assumes nothing.
use lib.ListN.{length}
use Rattle.dot_ink.proofs.Inks.{Front}
use Rattle.dot_ink.proofs.used_by.Given as goal

abbrev pub invariant-loop-front : goal.invariant-loop-front
invariant-loop-front g l = Front l.row l.used

abbrev pub decreases-loop-front : goal.decreases-loop-front
decreases-loop-front g l = length l.used
