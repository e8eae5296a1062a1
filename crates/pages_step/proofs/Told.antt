-- A program's answer, made again of what it says. Assumes nothing.
use mathlib.Core.Path.{◌≡◌, refl, ap, sym, ◌∙◌}
use Prim.Native.Nat.{ℕ}
use Rattle.std.specs.Prelude.{Result, Ok, Err}
use Rattle.rules.specs.declared.Refusal.{Refusal}
use Rattle.rules.specs.declared.State.{State}
use Rattle.theorems.proofs.Told.{answer_by}
use Rattle.pages_step.specs.declared.StepDone.{StepDone}
use Rattle.pages_step.specs.Steps.{Sheet, step_sheet, OneStepAnswer}

abbrev step_of : Sheet → StepDone
step_of r = record { state = r.state; place = r.place; number = r.number; findings = r.findings; end = r.end; paged = r.paged; over = r.over }

abbrev sheet_again : Sheet → Result StepDone Refusal
sheet_again r = answer_by r.verdict (step_of r)

sheet_back : (t : State) (place number findings : ℕ) (r : Result StepDone Refusal) → sheet_again (step_sheet t place number findings r) ≡ r
sheet_back t place number findings (Ok d) = refl
sheet_back t place number findings (Err why) = refl

pub one_step_answer : OneStepAnswer
one_step_answer t place number findings r r' e = sym (sheet_back t place number findings r) ∙ ap sheet_again e ∙ sheet_back t place number findings r'
