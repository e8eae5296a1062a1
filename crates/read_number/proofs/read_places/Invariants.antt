-- `read_number::read_places` meets its contract. The loop's invariant: what is left, behind the size so far, makes the whole size; the measure is what is left. Assumes nothing.
use Prim.Native.Nat.{◌-◌}
use lib.ListN.{length}
use Rattle.read_number.proofs.Reading.{Placing}
use Rattle.read_number.proofs.read_places.Given as goal

abbrev pub invariant-loop-i : goal.invariant-loop-i
invariant-loop-i l = Placing l.s l.at l.n l.sum l.weight l.i

abbrev pub decreases-loop-i : goal.decreases-loop-i
decreases-loop-i l = length l.s - l.i
