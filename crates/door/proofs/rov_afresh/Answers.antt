-- `door::rov_afresh` meets its contract. Assumes nothing.
use borrow.Author.Rules.{rules}
use Rattle.door.proofs.Told.{afresh_measure, afresh_short, afresh_made}
use Rattle.door.proofs.rov_afresh.Goals as goal

pub returns-in_default : goal.returns-in_default
returns-in_default c = search (afresh_measure, rules)

pub returns-then-state-lt-STATE_BYTES : goal.returns-then-state-lt-STATE_BYTES
returns-then-state-lt-STATE_BYTES c = search (afresh_short, rules)

pub returns : goal.returns
returns c = search (afresh_made, rules)
