-- A step that is refused, and that a promise of a step settles it. Assumes nothing.
use mathlib.Core.Path.{◌≡◌, ap, sym, ◌∙◌}
use Prim.Native.Nat.{ℕ}
use native.Mathlib.Nat.{add-zero}
use native.Mathlib.Omega.{arith}
use mathlib.Core.List.{List}
use mathlib.Core.Bool.{not}
use lib.Dec.{ltb}
use lib.ListN.{length, take}
use Rattle.common.proofs.Choices.{choice}
use Rattle.rules.specs.declared.Refusal.{Refusal}
use Rattle.rules.specs.declared.Refusal.TheVariants.{PageMeasure, PageBuffer, StreamLength, UnsoundState, StartPlace}
use Rattle.rules.specs.Given.{Refused}
use Rattle.rules.specs.declared.State.{State}
use Rattle.rules.specs.Measure.{allowed, measure_of, page_bytes, is_too_long}
use Rattle.rules.specs.Sound.{sound}
use Rattle.rules.specs.Run.{Outcome, refused, answer}
use Rattle.run.proofs.Carried.{run_carried}
use Rattle.report_laws.proofs.Whole.{held_once}
use Rattle.pages_step.specs.Steps.{Sheet, step_items, sheet_of, refused_sheet, OneStep, RefusedStepsWriteNothing}

-- ---- a call that is refused
module _ (W H : ℕ) (page s : List ℕ) (t : State) (place k : ℕ) where
  -- for one reason, and that is all that it says
  Only : Outcome → Type 0
  Only o = (why : Refusal) → o.ran.verdict ≡ Refused why → o ≡ refused why t place page

  only : (why : Refusal) → Only (refused why t place page)
  unfolding Only
  only why y e = let i : why ≡ y = cc in rw i

  call_refused : Only (answer W H page s t place k)
  unfolding answer Only
  call_refused =
      choice Only (not (allowed W H)) (only PageMeasure)
      (choice Only (ltb (length page) (page_bytes (measure_of W H))) (only PageBuffer)
      (choice Only (is_too_long s) (only StreamLength)
      (choice Only (not (sound (measure_of W H) t)) (only UnsoundState)
      (choice Only (ltb (length s) place) (only StartPlace)
      (λ why e. absurd (let c = run_carried (measure_of W H) k t place (take (page_bytes (measure_of W H)) page) s in let z : ◌≡◌ {A = ℕ} 0 1 = cc in omega arith))))))

-- ---- a step
pub one_step : OneStep
one_step W H page s t place number findings room r r' page' page'' room' room'' p q =
    let o = (answer W H page s t place step_items).ran in
    let k = held_once p.holds q.holds in
    (p.given ∙ ap (sheet_of number findings o) k.0 ∙ sym q.given, p.lent ∙ sym q.lent, k.1)

pub refused_steps_write_nothing : RefusedStepsWriteNothing
unfolding Only
refused_steps_write_nothing W H page s t place number findings room r page' room' why p e =
    let f : (answer W H page s t place step_items).ran.verdict ≡ Refused why = ap (λ (q : Sheet). q.verdict) (sym p.given) ∙ e in
    let o : answer W H page s t place step_items ≡ refused why t place page = call_refused W H page s t place step_items why f in
    let h = rw o at p.holds in
    let n : r.end ≡ 0 = h.wrote.next ∙ omega arith in
    let g : sheet_of number findings (refused why t place page).ran r.end ≡ refused_sheet why t place number findings = rw (n, add-zero number, add-zero findings) in
    (p.given ∙ ap (λ (x : Outcome). sheet_of number findings x.ran r.end) o ∙ g, rw o at p.lent, h.wrote.held)
