-- `row_change::change` meets its contract: the loop's invariant: from here on the same is left to do. The measure is what is left of the payload. Assumes nothing.
use Prim.Native.Nat.{◌-◌}
use lib.ListN.{length}
use Rattle.row_change.proofs.Changes.{Changing}
use Rattle.row_change.proofs.change.Given as goal

abbrev pub invariant-loop-p : goal.invariant-loop-p
invariant-loop-p l = Changing l.s l.initial.row l.row l.p.from l.p.at

abbrev pub decreases-loop-p : goal.decreases-loop-p
decreases-loop-p l = length l.s - l.p.from
