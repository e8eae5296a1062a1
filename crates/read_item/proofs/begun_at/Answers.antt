-- `read_item::begun_at` meets its contract. Assumes nothing.
use borrow.Author.Rules.{rules}
use Rattle.read_item.proofs.Items.{begun_open}
use Rattle.read_item.proofs.begun_at.Goals as goal

pub returns-in-Open : goal.returns-in-Open
returns-in-Open c = search (begun_open, rules)
