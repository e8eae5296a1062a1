-- `plain_stream::write_stream` meets its contract. Assumes nothing.
use Rattle.plain_stream.proofs.Telling.{Walking}
use Rattle.theorems.proofs.Reading.{left}
use lib.ListN.{drop}
use Rattle.plain_stream.proofs.write_stream.Given as goal

abbrev pub invariant-loop-end : goal.invariant-loop-end
invariant-loop-end l = Walking l.g l.most l.s l.initial.room l.pen l.seed l.beside l.sequence l.at l.room l.end

abbrev pub decreases-loop-end : goal.decreases-loop-end
decreases-loop-end l = left l.sequence (drop l.at l.s)
