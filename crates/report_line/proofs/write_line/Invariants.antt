use Rattle.report_line.proofs.Pieces.{Listing}
use Rattle.report_line.proofs.write_line.Given as goal

-- with the numbers that are left all are written
abbrev pub invariant-loop-n : goal.invariant-loop-n
invariant-loop-n l = Listing l.initial.out l.numbers l.out l.n-index
