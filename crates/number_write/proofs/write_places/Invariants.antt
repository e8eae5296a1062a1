use Rattle.number_write.proofs.Writing.{Leaving}
use Rattle.number_write.proofs.write_places.Given as goal

-- with the places that are left all are written
abbrev pub invariant-loop-unit : goal.invariant-loop-unit
invariant-loop-unit l = Leaving l.initial.out l.n l.out l.left l.unit-index
