-- `read_item::read_item` meets its contract. Assumes nothing.
use borrow.Author.Rules.{rules}
use Rattle.read_item.proofs.Places.{item_none, item_whole, item_valued}
use Rattle.read_item.proofs.read_item.Goals as goal

pub returns-then-s-at : goal.returns-then-s-at
returns-then-s-at c = search (item_none, rules)

pub returns-in-Read : goal.returns-in-Read
returns-in-Read c = search (item_whole, rules)

pub returns-in-Sequence : goal.returns-in-Sequence
returns-in-Sequence c = search (item_valued, rules)
