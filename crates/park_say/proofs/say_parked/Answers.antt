-- `park_say::say_parked` meets its contract. Assumes nothing.
use Rattle.park_say.proofs.Spoken.{parked_said}
use Rattle.park_say.proofs.say_parked.Goals as goal

pub returns : goal.returns
returns c =
    parked_said c.args.w c.args.h c.args.page.now c.args.s.now c.args.items c.args.room.now c.park_job-outcome.result _ _ c.say.result _ c.park_job-outcome.ensures c.say.ensures
