-- `plain_item::write_valued` meets its contract. Assumes nothing.
use Rattle.plain_item.proofs.Writing.{valued_put, valued_none}
use borrow.Author.Rules.{rules}
use Rattle.plain_item.proofs.write_valued.Goals as goal

pub returns-then-is_clean : goal.returns-then-is_clean
returns-then-is_clean c = search (valued_put, rules)

pub returns-else-is_clean : goal.returns-else-is_clean
returns-else-is_clean c = search (valued_none, rules)
