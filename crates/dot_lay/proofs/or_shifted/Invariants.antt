-- `dot_lay::or_shifted` meets its contract: the bytes from 1 up to j are or-ed, then the first, then the one behind the source. Assumes nothing.
use Rattle.dot_lay.proofs.Windows.{Shifting}
use Rattle.dot_lay.proofs.or_shifted.Given as goal

abbrev pub invariant-loop-j : goal.invariant-loop-j
invariant-loop-j l = Shifting l.initial.part l.src l.s l.part 1 l.j
