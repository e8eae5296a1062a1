-- `leaf_step::rov_step` meets its contract. Assumes nothing.
use mathlib.Core.Path.{refl}
use borrow.Author.Rules.{rules}
use Rattle.std.specs.Prelude.{Ok, Err}
use Rattle.pages_step.specs.Steps.{step_sheet}
use Rattle.leaf_step.proofs.Telling.{told_step}
use Rattle.leaf_step.proofs.rov_step.Goals as goal

pub returns-in-Ok : goal.returns-in-Ok
returns-in-Ok c =
    let sheet = step_sheet c.read_state-t.result c.args.place.now c.args.number.now c.args.findings.now (Ok c.in-Ok.r) in
    told_step _ _ _ _ _ _ _ _ _ _ _ _ _ _ _ c.read_state-t.result sheet c.read_state-t.ensures (rw c.in-Ok.is at c.next-step.ensures.0) (search rules) (search rules) (record { number = refl; bytes = c.write_state.ensures })

pub returns-in-Err : goal.returns-in-Err
returns-in-Err c =
    let sheet = step_sheet c.read_state-t.result c.args.place.now c.args.number.now c.args.findings.now (Err c.in-Err.why) in
    told_step _ _ _ _ _ _ _ _ _ _ _ _ _ _ _ c.read_state-t.result sheet c.read_state-t.ensures (rw c.in-Err.is at c.next-step.ensures.0) refl refl (record { number = c.refusal_number.ensures; bytes = refl })
