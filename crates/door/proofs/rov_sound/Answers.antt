-- `door::rov_sound` meets its contract. Assumes nothing.
use Rattle.door.proofs.Told.{sound_not, sound_told}
use Rattle.door.proofs.rov_sound.Goals as goal

pub returns-in-Some : goal.returns-in-Some
returns-in-Some c = sound_told _ _ _ c.page_of.ensures _ c.in-Some.is _ _ _ c.read_state.ensures c.sound.ensures

pub returns-in-None : goal.returns-in-None
returns-in-None c = sound_not _ _ _ c.page_of.ensures _ c.in-None.is
