-- `plain_item::trimmed` meets its contract. Assumes nothing.
use Rattle.plain_item.proofs.Trimming.{Trims}
use Rattle.plain_item.proofs.trimmed.Given as goal

abbrev pub invariant-loop-n : goal.invariant-loop-n
invariant-loop-n l = Trims l.row l.n

abbrev pub decreases-loop-n : goal.decreases-loop-n
decreases-loop-n l = l.n
