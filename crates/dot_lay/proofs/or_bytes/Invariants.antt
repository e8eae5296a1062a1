-- `dot_lay::or_bytes` meets its contract: after j turns j bytes are or-ed. Assumes nothing.
use Rattle.dot_lay.proofs.Laying.{Laying}
use Rattle.dot_lay.proofs.or_bytes.Given as goal

abbrev pub invariant-loop-j : goal.invariant-loop-j
invariant-loop-j l = Laying l.initial.part l.src l.part l.j
