-- The lines that were written are there whole.
use Rattle.std.proofs.Common.{rules}
use Rattle.pages_open.proofs.Holding.{begins}
use Rattle.pages_open.proofs.begin.Goals as goal

pub returns : goal.returns
returns c = begins _ _ _ _ c.refusal_of-refusal.ensures c.is_some.ensures (search rules)
