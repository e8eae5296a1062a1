-- `read_item::payload_at` meets its contract. Assumes nothing.
use borrow.Author.Rules.{rules}
use Rattle.read_item.proofs.Items.{through, payload_there, payload_short}
use Rattle.read_item.proofs.payload_at.Goals as goal

pub returns-then-s-at : goal.returns-then-s-at
returns-then-s-at c = search (through, payload_there, payload_short, rules)

pub returns : goal.returns
returns c = search (through, payload_there, rules)
