-- `read_number::read_digits` meets its contract. The loop's invariant: what is left, behind the number so far, makes the whole number; the measure is what is left. Assumes nothing.
use Prim.Native.Nat.{◌-◌}
use lib.ListN.{length}
use Rattle.read_number.proofs.Reading.{Counting}
use Rattle.read_number.proofs.read_digits.Given as goal

abbrev pub invariant-loop-i : goal.invariant-loop-i
invariant-loop-i l = Counting l.s l.at l.n l.i

abbrev pub decreases-loop-i : goal.decreases-loop-i
decreases-loop-i l = length l.s - l.i
