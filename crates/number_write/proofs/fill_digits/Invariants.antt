use Rattle.number_write.proofs.Writing.{Filling}
use Rattle.number_write.proofs.fill_digits.Given as goal

-- with the digits that are left all are there
abbrev pub invariant-loop-left : goal.invariant-loop-left
invariant-loop-left l = Filling l.n l.digits l.left l.i

-- what is left grows less
abbrev pub decreases-loop-left : goal.decreases-loop-left
decreases-loop-left l = l.left
