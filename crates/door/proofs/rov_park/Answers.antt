-- `door::rov_park` meets its contract. Assumes nothing.
use Rattle.door.proofs.Told.{told_parked}
use Rattle.door.proofs.rov_park.Goals as goal

pub returns : goal.returns
returns c = told_parked _ _ _ _ _ _ _ _ _ c.read_state.ensures c.park-parked.ensures c.tell_length.ensures.number c.tell_length.ensures.length
