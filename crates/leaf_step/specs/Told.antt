-- What a step behind the boundary to C tells: the rules' outcome, as numbers and bytes.
use Rattle.std.specs.Prelude.{◌≡◌, List, ℕ, ◌+◌}
use Rattle.common.specs.Choice.{flagged}
use Rattle.common.specs.Stores.{Holds}
use Rattle.rules.specs.Findings.{verdict_number}
use Rattle.rules.specs.Run.{Outcome, answer}
use Rattle.rules.specs.Report.{counted}
use Rattle.state_load.specs.Kept.{state_at, bytes_behind}
use Rattle.pages_open.specs.Opening.{longest_lines}
use Rattle.pages_step.specs.Steps.{Sheet, step_items, is_over, has_page, step_lines}

-- of a step that gave r: the number, and the state's bytes
pub record Kept (r : Sheet) (b : List ℕ) (n : ℕ) (after : List ℕ) : Type 0 where
  pub number : n ≡ verdict_number r.verdict
  pub bytes : after ≡ bytes_behind r.verdict r.state b

-- the run of a step, in the state that the bytes are read as
abbrev pub step_run : ℕ → ℕ → List ℕ → List ℕ → List ℕ → ℕ → Outcome
step_run W H page s state place = answer W H page s (state_at state) place step_items

pub record ToldStep (W H : ℕ) (page s state : List ℕ) (place number findings : ℕ) (room : List ℕ) (n : ℕ) (page' state' : List ℕ) (place' number' findings' : ℕ) (room' : List ℕ) (end has over : ℕ) : Type 0 where
  pub told : n ≡ verdict_number (step_run W H page s state place).ran.verdict
  pub page_is : page' ≡ (step_run W H page s state place).page
  pub state_is : state' ≡ bytes_behind (step_run W H page s state place).ran.verdict (step_run W H page s state place).ran.state state
  pub place_is : place' ≡ (step_run W H page s state place).ran.place
  pub number_is : number' ≡ number + flagged (step_run W H page s state place).ran.ended
  pub findings_is : findings' ≡ findings + counted (step_run W H page s state place).ran.finding
  pub lines_are : Holds longest_lines (step_lines number findings (step_run W H page s state place).ran (step_run W H page s state place).page) room room' end
  pub has_is : has ≡ flagged (has_page (step_run W H page s state place).ran)
  pub over_is : over ≡ flagged (is_over (step_run W H page s state place).ran)

-- two outcomes that it allows for one input are equal
abbrev pub OneToldStep : Type 0
OneToldStep = (W H : ℕ) (page s state : List ℕ) (place number findings : ℕ) (room : List ℕ) (n n₂ : ℕ) (page' page₂ state' state₂ : List ℕ) (place' place₂ number' number₂ findings' findings₂ : ℕ) (room' room₂ : List ℕ) (end end₂ has has₂ over over₂ : ℕ)
    → ToldStep W H page s state place number findings room n page' state' place' number' findings' room' end has over
    → ToldStep W H page s state place number findings room n₂ page₂ state₂ place₂ number₂ findings₂ room₂ end₂ has₂ over₂
    → (n ≡ n₂) × (page' ≡ page₂) × (state' ≡ state₂) × (place' ≡ place₂) × (number' ≡ number₂) × (findings' ≡ findings₂) × (room' ≡ room₂) × (end ≡ end₂) × (has ≡ has₂) × (over ≡ over₂)
