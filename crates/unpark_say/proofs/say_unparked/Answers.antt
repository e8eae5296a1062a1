-- `unpark_say::say_unparked` meets its contract. Assumes nothing.
use Rattle.unpark_say.proofs.Spoken.{said}
use Rattle.unpark_say.proofs.say_unparked.Goals as goal

pub returns : goal.returns
returns c = said c.args.s.now c.args.room.now _ _ c.tell-outcome.result c.say.result c.tell-outcome.ensures c.say.ensures
