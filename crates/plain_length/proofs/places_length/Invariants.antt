use Rattle.plain_length.proofs.Counting.{Remaining}
use Rattle.plain_length.proofs.places_length.Given as goal

-- the places counted and those that are left are all
abbrev pub invariant-loop-unit : goal.invariant-loop-unit
invariant-loop-unit l = Remaining l.n l.count l.left l.unit-index
