-- `plain_item::write_order` meets its contract. Assumes nothing.
use Rattle.plain_item.proofs.Writing.{order_out}
use borrow.Author.Rules.{rules}
use Rattle.plain_item.proofs.write_order.Goals as goal

pub returns-then-room-at : goal.returns-then-room-at
returns-then-room-at c = search (order_out, rules)
