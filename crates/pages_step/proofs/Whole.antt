-- Steps one behind the other write the whole job. Assumes nothing.
use mathlib.Core.Path.{◌≡◌, refl, ap, sym, ◌∙◌}
use Prim.Native.Nat.{ℕ, zero, suc, ◌+◌, ◌*◌, ◌≤◌, ◌<◌}
use native.Mathlib.Numerals.{add-one}
use native.Mathlib.Omega.{arith}
use mathlib.Core.List.{List, [], ◌∷◌, ◌++◌, append-nil}
use mathlib.Core.Bool.{Bool, true, false, cond, not, ◌||◌, false≢true, true≢false}
use lib.Dec.{eqb}
use lib.ListN.{length, drop}
use borrow.Author.Tests.{eqb-true, eq-eqb, ne_eqb, ltb-false}
use Rattle.rules.specs.declared.State.{State}
use Rattle.rules.specs.Measure.{allowed, measure_of, blank, page_bytes, longest_stream, is_too_long}
use Rattle.rules.specs.States.{fresh_core, afresh}
use Rattle.rules.specs.Findings.{is_refused}
use Rattle.rules.specs.Acts.{world}
use Rattle.rules.specs.Run.{Outcome, answer, pages}
use Rattle.rules.specs.Report.{SIZE, last_lines, counted, stream_lines}
use Rattle.theorems.specs.Statements.{RunPromise}
use Rattle.theorems.proofs.Reading.{left}
use Rattle.report_line.proofs.Texts.{line_append}
use Rattle.report_laws.specs.Left.{page_now, lines_left}
use Rattle.report_laws.proofs.Items.{left_whole}
use Rattle.report_laws.proofs.Reporting.{Going, going_start, going_less, going_again, call_ran, call_more, call_over, call_same, lines_again, lines_end}
use Rattle.pages_mark.specs.Marks.{marked}
use Rattle.pages_mark.proofs.Marking.{marked_ahead}
use Rattle.pages_open.specs.Opening.{job_refused}
use Rattle.pages_step.specs.Sheets.{page_sheets}
use Rattle.pages_step.specs.Left.{pages_left}
use Rattle.pages_step.specs.Steps.{step_items, Written, written, step_writes, steps, job_steps, WritesAll, StepsWriteTheJob, all_carried, StepsAreCarried}
use Rattle.pages_step.proofs.Sizes.{run_sized}
use Rattle.run.proofs.Carried.{run_carried}
use Rattle.pages_step.proofs.Pages.{pages_whole, pages_over, run_pages}

module _ (W H : ℕ) (allow : allowed W H ≡ true) (s : List ℕ) (long : length s ≤ longest_stream) where
  -- the lines and the pages that are left
  abbrev rest : List ℕ → State → ℕ → ℕ → ℕ → Written
  rest page t place number findings =
      written (lines_left marked (measure_of W H) t (drop place s) place number (page_now (measure_of W H) t page) findings) (pages_left (measure_of W H) t (drop place s) (page_now (measure_of W H) t page))

  module _ {page : List ℕ} {t : State} {place number findings : ℕ} (inv : Going W H s page t place number findings) where
    abbrev O : Outcome
    O = answer W H page s t place step_items

    promise : RunPromise W H page s t place step_items O.ran O.page
    promise = record { given = refl; lent = refl }

    -- the step is carried out
    pub carried_out : is_refused O.ran.verdict ≡ false
    carried_out = ap (λ (o : Outcome). is_refused o.ran.verdict) (sym (call_ran W H allow inv long 2097152 promise)) ∙ ap is_refused (run_carried (measure_of W H) step_items t place page s)

    -- the page keeps its size
    kept : length O.page ≡ length page
    kept = ap (λ (o : Outcome). length o.page) (sym (call_ran W H allow inv long 2097152 promise)) ∙ run_sized (measure_of W H) step_items t place page s inv.sized ∙ sym inv.sized

    -- a step that is not the last writes the first of what is left
    step_more : (O.ran.done ≡ 0 → ⊥)
        → step_writes number findings O (rest O.page O.ran.state O.ran.place (number + cond O.ran.ended 1 0) (findings + counted O.ran.finding)) ≡ rest page t place number findings
    step_more z = rw (carried_out, ne_eqb O.ran.done 0 z) (λ j. written (sym (lines_again W H allow inv long 2097152 promise marked marked_ahead z) j)
        (sym (run_pages (measure_of W H) s 2097152 t place page O (call_more W H allow inv long 2097152 promise z) (call_ran W H allow inv long 2097152 promise)) j))

    -- the last step writes all that is left, whatever would follow
    step_last : O.ran.done ≡ 0 → (more : Written) → step_writes number findings O more ≡ rest page t place number findings
    step_last z more = rw (carried_out, eq-eqb O.ran.done 0 z) (λ j. written (lines j) (pages' j))
      where
        lines : last_lines number (world O.ran.state.core O.page []) findings ++ [] ≡ (rest page t place number findings).lines
        lines = append-nil _ ∙ lines_end W H allow inv long 2097152 promise marked z

        seen : (u : Bool) (a b : List ℕ) → cond u (a ∷ []) [] ≡ cond u (cond u a b ∷ []) []
        seen true a b = refl
        seen false a b = refl

        pages' : cond O.ran.state.core.used (O.page ∷ []) [] ++ [] ≡ (rest page t place number findings).pages
        pages' =
            append-nil _
            ∙ ap (λ (q : Outcome). cond q.ran.state.core.used (q.page ∷ []) []) (call_same W H allow inv long 2097152 promise z)
            ∙ seen t.core.used page (blank (measure_of W H))
            ∙ sym (pages_over (measure_of W H) t (drop place s) (page_now (measure_of W H) t page) (call_over W H allow inv long 2097152 promise z))

    -- a step that is not the last leaves all as it should be, and less to read
    pub some : eqb O.ran.done 0 ≡ false → O.ran.done ≡ 0 → ⊥
    some e z = false≢true (sym e ∙ eq-eqb O.ran.done 0 z)

    pub again : (O.ran.done ≡ 0 → ⊥) → Going W H s O.page O.ran.state O.ran.place (number + cond O.ran.ended 1 0) (findings + counted O.ran.finding)
    again z = going_again W H allow inv long 2097152 promise z kept refl refl

    pub less : (O.ran.done ≡ 0 → ⊥) → left O.ran.state.sequence (drop O.ran.place s) < left t.sequence (drop place s)
    less z = going_less W H allow inv long 2097152 promise z

  -- enough steps write all that is left
  all_steps : (n : ℕ) (page : List ℕ) (t : State) (place number findings : ℕ) → Going W H s page t place number findings → left t.sequence (drop place s) ≤ n
      → steps (suc n) W H s page t place number findings ≡ rest page t place number findings
  unfolding steps
  all_steps zero page t place number findings inv h = go (eqb (O inv).ran.done 0) refl
    where
      go : (b : Bool) → eqb (O inv).ran.done 0 ≡ b → steps 1 W H s page t place number findings ≡ rest page t place number findings
      go true e = step_last inv (eqb-true (O inv).ran.done 0 e) (steps 0 W H s (O inv).page (O inv).ran.state (O inv).ran.place (number + cond (O inv).ran.ended 1 0) (findings + counted (O inv).ran.finding))
      go false e = absurd (let l = less inv (some inv e) in omega arith)
  all_steps (suc n) page t place number findings inv h = go (eqb (O inv).ran.done 0) refl (all_steps n)
    where
      go : (b : Bool) → eqb (O inv).ran.done 0 ≡ b
          → ((page : List ℕ) (t : State) (place number findings : ℕ) → Going W H s page t place number findings → left t.sequence (drop place s) ≤ n
          → steps (suc n) W H s page t place number findings ≡ rest page t place number findings) → steps (suc (suc n)) W H s page t place number findings ≡ rest page t place number findings
      go true e i = step_last inv (eqb-true (O inv).ran.done 0 e) (steps (suc n) W H s (O inv).page (O inv).ran.state (O inv).ran.place (number + cond (O inv).ran.ended 1 0) (findings + counted (O inv).ran.finding))
      go false e i =
          ap (step_writes number findings (O inv)) (i (O inv).page (O inv).ran.state (O inv).ran.place _ _ (again inv (some inv e)) (let l = less inv (some inv e) in omega arith)) ∙ step_more inv (some inv e)

  -- from the start on they write the whole
  job_steps_lem : (page : List ℕ) → length page ≡ page_bytes (measure_of W H) → job_steps W H s page ≡ written (stream_lines marked (measure_of W H) s) (page_sheets (pages (measure_of W H) s))
  unfolding left afresh fresh_core
  job_steps_lem page e =
      ap (λ n. steps n W H s page (afresh (measure_of W H)) 0 1 0) (add-one (2 * length s))
      ∙ all_steps (2 * length s) page (afresh (measure_of W H)) 0 1 0 (going_start W H allow s page (afresh (measure_of W H)) e refl) (omega arith)
      ∙ (λ j. written (left_whole marked (measure_of W H) s j) (pages_whole (measure_of W H) s j))

  -- and all are carried out
  all_carried_lem : (n : ℕ) (page : List ℕ) (t : State) (place number findings : ℕ) → Going W H s page t place number findings → all_carried n W H s page t place ≡ true
  unfolding all_carried
  all_carried_lem zero page t place number findings inv = refl
  all_carried_lem (suc n) page t place number findings inv = rw (carried_out inv) (go (eqb (O inv).ran.done 0) refl (all_carried_lem n))
    where
      go : (b : Bool) → eqb (O inv).ran.done 0 ≡ b → ((page : List ℕ) (t : State) (place number findings : ℕ) → Going W H s page t place number findings → all_carried n W H s page t place ≡ true)
          → cond b true (all_carried n W H s (O inv).page (O inv).ran.state (O inv).ran.place) ≡ true
      go true e i = refl
      go false e i = i (O inv).page (O inv).ran.state (O inv).ran.place _ _ (again inv (some inv e))

-- a job that is not refused: its measure is allowed, and it is not too long
pub taken : (W H : ℕ) (s : List ℕ) → job_refused W H s ≡ false → (allowed W H ≡ true) × (length s ≤ longest_stream)
taken W H s f = go (allowed W H) (is_too_long s) refl f
  where
    go : (a l : Bool) → is_too_long s ≡ l → (not a || l) ≡ false → (a ≡ true) × (length s ≤ longest_stream)
    go true false x h = (refl, ltb-false longest_stream (length s) x)
    go true true x h = absurd (true≢false h)
    go false l x h = absurd (true≢false h)

-- every step of a job that is not refused is carried out
pub steps_are_carried : StepsAreCarried
steps_are_carried W H s page f e =
    let k = taken W H s f in
    all_carried_lem W H k.0 s k.1 _ page (afresh (measure_of W H)) 0 1 0 (going_start W H k.0 s page (afresh (measure_of W H)) e refl)

-- the first lines and the steps together write the whole job
pub steps_write_the_job : StepsWriteTheJob
steps_write_the_job W H s page e = go (allowed W H) refl (is_too_long s) refl
  where
    go : (a : Bool) → allowed W H ≡ a → (b : Bool) → is_too_long s ≡ b → WritesAll W H s page
    go false x b y = record { lines = rw x (append-nil _); pages = rw x }
    go true x true y = record { lines = rw (x, y) (append-nil _); pages = rw (x, y) }
    go true x false y =
        let k = job_steps_lem W H x s (ltb-false longest_stream (length s) y) page e in
        record { lines = rw (x, y, k) (sym (line_append SIZE (W ∷ H ∷ []) [] (stream_lines marked (measure_of W H) s))); pages = rw (x, y, k) }
