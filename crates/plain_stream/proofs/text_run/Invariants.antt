-- `plain_stream::text_run` meets its contract. Assumes nothing.
use Rattle.plain_stream.proofs.Runs.{Running}
use Rattle.plain_stream.proofs.text_run.Given as goal

abbrev pub invariant-loop-n : goal.invariant-loop-n
invariant-loop-n l = Running l.s l.n
