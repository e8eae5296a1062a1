-- `row_fill::fill_row` meets its contract: the loop's invariant: the row is filled up to a place, and from here on the same is left to do. The measure is what is left of the payload. Assumes nothing.
use Prim.Native.Nat.{◌-◌}
use lib.ListN.{length}
use Rattle.row_fill.proofs.Filling.{Filling}
use Rattle.row_fill.proofs.fill_row.Given as goal

abbrev pub invariant-loop-p : goal.invariant-loop-p
invariant-loop-p l = Filling l.method l.s l.initial.row l.row l.p.from l.p.at

abbrev pub decreases-loop-p : goal.decreases-loop-p
decreases-loop-p l = length l.s - l.p.from
