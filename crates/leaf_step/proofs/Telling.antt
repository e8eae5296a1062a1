-- What a step gave is told as the rules give it. Assumes nothing.
use mathlib.Core.Path.{◌≡◌, ap, sym, ◌∙◌}
use mathlib.Core.List.{List}
use Prim.Native.Nat.{ℕ}
use Rattle.common.specs.Choice.{flagged}
use Rattle.rules.specs.declared.State.{State}
use Rattle.rules.specs.Findings.{verdict_number}
use Rattle.rules.specs.Run.{answer}
use Rattle.state_load.specs.Kept.{state_at, bytes_behind}
use Rattle.report_laws.proofs.Whole.{held_once}
use Rattle.pages_step.specs.Steps.{Sheet, step_items, sheet_of, Stepped}
use Rattle.leaf_step.specs.Told.{Kept, ToldStep, OneToldStep}

-- a step told
pub told_step : (W H : ℕ) (page s state : List ℕ) (place number findings : ℕ) (room : List ℕ) (n : ℕ) (page' state' room' : List ℕ) (has over : ℕ) (t : State) (r : Sheet) → t ≡ state_at state
    → Stepped W H page s t place number findings room r page' room' → has ≡ flagged r.paged → over ≡ flagged r.over → Kept r state n state'
    → ToldStep W H page s state place number findings room n page' state' r.place r.number r.findings room' r.end has over
told_step W H page s state place number findings room n page' state' room' has over t r e p i j k =
    let g : r ≡ sheet_of number findings (answer W H page s (state_at state) place step_items).ran r.end = rw e at p.given in
    record {
      told = k.number ∙ ap (λ (z : Sheet). verdict_number z.verdict) g;
      page_is = rw e at p.lent;
      state_is = k.bytes ∙ ap (λ (z : Sheet). bytes_behind z.verdict z.state state) g;
      place_is = ap (λ (z : Sheet). z.place) g;
      number_is = ap (λ (z : Sheet). z.number) g;
      findings_is = ap (λ (z : Sheet). z.findings) g;
      lines_are = rw e at p.holds;
      has_is = i ∙ ap (λ (z : Sheet). flagged z.paged) g;
      over_is = j ∙ ap (λ (z : Sheet). flagged z.over) g;
    }

-- one outcome
pub one_told-step : OneToldStep
one_told-step W H page s state place number findings room n n₂ page' page₂ state' state₂ place' place₂ number' number₂ findings' findings₂ room' room₂ end end₂ has has₂ over over₂ p q =
    let k = held_once p.lines_are q.lines_are in
    (p.told ∙ sym q.told, p.page_is ∙ sym q.page_is, p.state_is ∙ sym q.state_is, p.place_is ∙ sym q.place_is, p.number_is ∙ sym q.number_is, p.findings_is ∙ sym q.findings_is, k.1, k.0, p.has_is ∙ sym q.has_is, p.over_is ∙ sym q.over_is)
