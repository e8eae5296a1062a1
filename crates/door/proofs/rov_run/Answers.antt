-- `door::rov_run` meets its contract. Assumes nothing.
use mathlib.Core.Path.{refl}
use borrow.Author.Rules.{rules}
use Rattle.std.specs.Prelude.{Err}
use Rattle.rules.specs.Run.{carried, ran}
use Rattle.run.proofs.Ready.{none_known}
use Rattle.door.proofs.Told.{answered}
use Rattle.door.proofs.rov_run.Goals as goal

pub run-requires : goal.run-requires
run-requires c = none_known _

pub returns-in-Ok : goal.returns-in-Ok
returns-in-Ok c = answered _ _ _ _ _ _ _ _ _ _ _ _ c.read_state-t.result (carried c.in-Ok.o) c.read_state-t.ensures (rw c.in-Ok.is at c.run.ensures.0) c.finding_number.ensures (search rules) c.keep.ensures refl

pub returns-in-Err : goal.returns-in-Err
returns-in-Err c =
    answered _ _ _ _ _ _ _ _ _ _ _ _ c.read_state-t.result (ran c.read_state-t.result c.args.place.now (Err c.in-Err.why)) c.read_state-t.ensures (rw c.in-Err.is at c.run.ensures.0) refl refl refl c.refusal_number.ensures
