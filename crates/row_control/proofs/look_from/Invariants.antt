-- `row_control::look_from` meets its contract: the loop's invariant: the payload is whole where it is whole from here on. The measure is what is left of it. Assumes nothing.
use mathlib.Core.Path.{◌≡◌}
use Prim.Native.Nat.{◌-◌}
use lib.ListN.{length}
use Rattle.row_control.specs.Controls.{control_of, whole_from}
use Rattle.row_control.proofs.look_from.Given as goal

abbrev pub invariant-loop-i : goal.invariant-loop-i
invariant-loop-i l = whole_from (control_of l.method) l.s l.from ≡ whole_from (control_of l.method) l.s l.i

abbrev pub decreases-loop-i : goal.decreases-loop-i
decreases-loop-i l = length l.s - l.i
