-- `leaf_door::rov_write_value` meets its contract: a place beyond the room is as good as its end. Assumes nothing.
use borrow.Author.Rules.{rules}
use Rattle.leaf_door.proofs.Laws.{wrote_from}
use Rattle.leaf_door.proofs.rov_write_value.Goals as goal

pub returns : goal.returns
returns c = wrote_from _ _ _ _ _ _ _ c.min-at.ensures c.value_from.ensures (search rules)
