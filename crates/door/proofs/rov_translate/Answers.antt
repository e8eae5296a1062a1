-- `door::rov_translate` meets its contract. Assumes nothing.
use Rattle.door.proofs.Told.{told_plain}
use Rattle.door.proofs.rov_translate.Goals as goal

pub returns : goal.returns
returns c = told_plain _ _ _ _ _ _ _ _ c.translate-plain.ensures c.tell_length.ensures.number c.tell_length.ensures.length
