-- `park_text::position_length` meets its contract. Assumes nothing.
use Rattle.park_text.proofs.Counting.{position_counted}
use Rattle.park_text.proofs.position_length.Goals as goal

pub returns : goal.returns
returns c = position_counted c.args.p _ _ c.field_length.ensures c.field_length-2.ensures
