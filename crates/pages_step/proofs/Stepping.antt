-- The loop of a program that makes the steps: it may go on after each, and it ends. Assumes nothing.
use mathlib.Core.Path.{◌≡◌, refl, ap, sym, ◌∙◌, subst}
use Prim.Native.Nat.{ℕ, ◌*◌, ◌/◌, ◌≤◌, ◌<◌}
use native.Mathlib.Omega.{arith}
use mathlib.Core.List.{List}
use mathlib.Core.Bool.{true, false, true≢false}
use lib.ListN.{length, take, drop}
use lib.Seq.{length-take-le}
use Rattle.std.specs.Prelude.{Result, Ok, Err}
use Rattle.std.specs.Result.{IsOk}
use Rattle.rules.specs.declared.Measure.{Measure}
use Rattle.rules.specs.declared.State.{State}
use Rattle.rules.specs.Measure.{Bounded, allowed, measure_of, page_bytes, longest_stream}
use Rattle.rules.specs.declared.Refusal.{Refusal}
use Rattle.rules.specs.Given.{Refused}
use Rattle.rules.specs.Findings.{is_refused}
use Rattle.rules.specs.States.{afresh}
use Rattle.theorems.proofs.Reading.{left}
use Rattle.theorems.proofs.Measures.{allowed_gives}
use Rattle.report_laws.proofs.Reporting.{Going, going_start}
use Rattle.report_verdict.specs.declared.Saying.{Saying}
use Rattle.pages_open.specs.Opening.{longest_lines, Begins}
use Rattle.pages_step.specs.declared.StepDone.{StepDone}
use Rattle.pages_step.specs.Steps.{Sheet, Stepped, step_sheet}
use Rattle.pages_step.proofs.Whole.{taken, carried_out, some, again, less}

-- a page that is allowed is within the largest
pub allowed_fits : (W H : ℕ) (g : Measure) → allowed W H ≡ true → g ≡ measure_of W H → Bounded g
allowed_fits W H g a e = let f = (allowed_gives W H a).fits in rw e (f.wide, f.high)

-- the state afresh on it
pub allowed_afresh : (W H : ℕ) (g : Measure) (t : State) → g ≡ measure_of W H → t ≡ afresh g → t ≡ afresh (measure_of W H)
allowed_afresh W H g t e f = rw e at f

-- its bytes
pub allowed_bytes : (W H : ℕ) → allowed W H ≡ true → H * (W / 8) ≤ 4080000
allowed_bytes W H a = (allowed_gives W H a).bytes

-- a page of it fits the largest
pub allowed_within : (W H n : ℕ) → allowed W H ≡ true → 4080000 ≡ n → H * (W / 8) ≤ n
allowed_within W H n a e = omega (arith, allowed_bytes W H a)

-- a part from the start has the length asked for
pub part_length : (n : ℕ) (l : List ℕ) → n ≤ length l → n ≡ length (take n l)
part_length n l h = sym (length-take-le n l h)

-- what a job that is not refused is known to be
pub taken_job : {W H : ℕ} {s room : List ℕ} {r : Saying} {after : List ℕ} → Begins W H s room r after → r.refused ≡ false → (allowed W H ≡ true) × (length s ≤ longest_stream)
taken_job {W} {H} {s} b f = taken W H s (sym b.refused ∙ f)

-- what holds before each step: all is as it should be, and the room has its length, which is enough for the lines of any step
pub record Stepping (W H : ℕ) (s page before room : List ℕ) (t : State) (place number findings : ℕ) : Type 0 where
  pub going : Going W H s page t place number findings
  pub kept : length room ≡ length before
  pub roomy : longest_lines ≤ length room

pub stepping_start : (W H : ℕ) (s page room : List ℕ) (t : State) → allowed W H ≡ true → length page ≡ page_bytes (measure_of W H) → longest_lines ≤ length room → t ≡ afresh (measure_of W H)
    → Stepping W H s page room room t 0 1 0
stepping_start W H s page room t a e l f = record { going = going_start W H a s page t e f; kept = refl; roomy = l }

module _ {W H : ℕ} {s page before room : List ℕ} {t : State} {place number findings : ℕ} (inv : Stepping W H s page before room t place number findings) (allow : allowed W H ≡ true)
    (long : length s ≤ longest_stream) where
  -- the numbers stay small
  pub stepping_small : (length page ≤ 4294967296) × (number ≤ 4294967296) × (findings ≤ 4294967296)
  stepping_small =
      let p = allowed_bytes W H allow in
      let e = inv.going.sized in
      let n = inv.going.pages in
      let f = inv.going.found in
      (omega arith, omega arith, omega arith)

  -- no step is refused
  pub stepping_carried : {r : Sheet} {page' room' : List ℕ} (why : Refusal) → Stepped W H page s t place number findings room r page' room' → r.verdict ≡ Refused why → ⊥
  stepping_carried why step e =
      true≢false (ap is_refused (sym e ∙ ap (λ (q : Sheet). q.verdict) step.given) ∙ carried_out W H allow s long inv.going)

  -- so that what a program gives is what the step left
  pub stepping_ok : {page' room' : List ℕ} (r : Result StepDone Refusal) → Stepped W H page s t place number findings room (step_sheet t place number findings r) page' room' → IsOk r
  stepping_ok (Ok d) step = refl
  stepping_ok (Err why) step = absurd (stepping_carried why step refl)

  module _ {r : Sheet} {page' room' : List ℕ} (step : Stepped W H page s t place number findings room r page' room') (more : r.over ≡ false) where
    -- less is left to read
    pub stepping_less : left r.state.sequence (drop r.place s) < left t.sequence (drop place s)
    stepping_less = subst (λ (q : Sheet). left q.state.sequence (drop q.place s) < left t.sequence (drop place s)) (sym step.given)
        (less W H allow s long inv.going (some W H allow s long inv.going (ap (λ (q : Sheet). q.over) (sym step.given) ∙ more)))

    -- and the next step may follow
    pub stepping_again : length room' ≡ length room → Stepping W H s page' before room' r.state r.place r.number r.findings
    stepping_again e = record {
      going = subst (λ (q : Sheet). Going W H s page' q.state q.place q.number q.findings) (sym step.given)
          (rw step.lent (again W H allow s long inv.going (some W H allow s long inv.going (ap (λ (q : Sheet). q.over) (sym step.given) ∙ more))));
      kept = e ∙ inv.kept;
      roomy = let l = inv.roomy in omega arith;
    }
