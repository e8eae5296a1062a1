-- `dot_slowly::Walk::eight` meets its contract: after so many turns so many dots are packed. Assumes nothing.
use Prim.Native.Nat.{◌≤◌}
use Rattle.dot_slowly.proofs.Walking.{Packing}
use Rattle.dot_slowly.proofs.Walk.eight.Given as goal

abbrev pub invariant-loop : goal.invariant-loop
invariant-loop l = Packing l.row l.dots l.initial.at l.ink l.at l.counter × (l.initial.at.byte ≤ 9223372036854775808)
