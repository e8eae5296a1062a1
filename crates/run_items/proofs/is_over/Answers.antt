-- `run_items::is_over` meets its contract. Assumes nothing.
use lib.ListN.{length}
use borrow.Author.Tests.{lt-leb}
use Rattle.run_items.proofs.Turns.{over_not}
use Rattle.run_items.proofs.is_over.Goals as goal

pub returns-else-s-at : goal.returns-else-s-at
returns-else-s-at c = rw (lt-leb (length c.args.s.now) c.args.at c.if-s-at.false) (over_not c.args.s.now c.args.at c.args.q c.if-s-at.false)
