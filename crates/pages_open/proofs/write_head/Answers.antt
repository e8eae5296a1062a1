-- A head that was written is there whole.
use Rattle.std.proofs.Common.{rules}
use Rattle.pages_open.proofs.Holding.{head_held}
use Rattle.pages_open.proofs.write_head.Goals as goal

pub returns : goal.returns
returns c = search (head_held, rules)
