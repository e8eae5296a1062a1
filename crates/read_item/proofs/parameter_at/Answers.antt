-- `read_item::parameter_at` meets its contract. Assumes nothing.
use borrow.Author.Rules.{rules}
use Rattle.read_item.proofs.Items.{parameter_read}
use Rattle.read_item.proofs.parameter_at.Goals as goal

pub returns : goal.returns
returns c = search (parameter_read, rules)
