-- Successive runs print a stream's lines in order. Assumes nothing.
use Rattle.std.proofs.Common.{◌≡◌, refl, ap, sym, ◌∙◌, subst, ℕ, suc, ◌+◌, ◌*◌, ◌/◌, ◌≤◌, ◌<◌, arith, List, [], ◌∷◌, ◌++◌, Bool, true, false, cond, length, drop}
use Rattle.common.specs.Bits.{ones_all}
use Rattle.common.specs.declared.writer.Writer.{Writer}
use Rattle.common.specs.Writing.{Written}
use Rattle.common.proofs.Writing.{written_both}
use Rattle.rules.specs.declared.Measure.{Measure}
use Rattle.rules.specs.declared.Finding.{Finding}
use Rattle.rules.specs.declared.Spot.{Spot}
use Rattle.rules.specs.declared.State.{State}
use Rattle.rules.specs.Given.{Ran}
use Rattle.rules.specs.Measure.{Bounded, allowed, measure_of, blank, longest_stream}
use Rattle.rules.specs.States.{fresh_core, afresh}
use Rattle.rules.specs.Sound.{sound}
use Rattle.rules.specs.Findings.{is_clean, finding_number}
use Rattle.rules.specs.Acts.{world, over}
use Rattle.rules.specs.Run.{Outcome, halted, run}
use Rattle.rules.specs.Report.{line, FAULT, PAGE, fault, last_lines, report_width, report_height, report_page, Saying, counted, fault_alone, stream_lines, told}
use Rattle.theorems.specs.Facts.{Shaped}
use Rattle.theorems.specs.Statements.{RunPromise}
use Rattle.theorems.proofs.Reading.{left}
use Rattle.theorems.proofs.Measures.{allowed_gives}
use Rattle.theorems.proofs.Lengths.{fresh_shaped}
use Rattle.theorems.proofs.Runs.{run_shaped}
use Rattle.theorems.proofs.Theorems.{afresh_is_sound}
use Rattle.report_line.proofs.Texts.{line_append, cond_append}
use Rattle.report_laws.specs.Left.{page_now, lines_left, printed}
use Rattle.report_laws.proofs.Items.{left_whole, left_over}
use Rattle.report_laws.proofs.Printing.{behind, Prints, run_prints, run_over, run_nothing}
use Rattle.report_laws.proofs.Calls.{carried, run_kept}

-- ---- texts
-- what is said of a finding stands in front of what follows, and does not depend on it
abbrev pub Ahead : Saying → Type 0
Ahead say = (began : Spot) (at n : ℕ) (s t : List ℕ) → say began at n (s ++ t) ≡ say began at n s ++ t

pub alone_ahead : Ahead fault_alone
alone_ahead began at n s t = line_append FAULT (at ∷ n ∷ []) s t

module _ (say : Saying) (ahead : Ahead say) where
  -- a finding in front of s and t
  told_append : (began : Spot) (at : ℕ) (f : Finding) (s t : List ℕ) → told say began at f (s ++ t) ≡ told say began at f s ++ t
  told_append began at f s t = ap (cond (is_clean f) (s ++ t)) (ahead began at (finding_number f) s t) ∙ go (is_clean f) (say began at (finding_number f) s)
    where
      go : (b : Bool) (a : List ℕ) → cond b (s ++ t) (a ++ t) ≡ cond b s a ++ t
      go true a = refl
      go false a = refl

  -- what a run prints in front of s: its lines, and then s
  printed_append : (number : ℕ) (o : Ran) (p s : List ℕ) → printed say number o p s ≡ printed say number o p [] ++ s
  printed_append number o p s =
      let page : List ℕ = line PAGE (number ∷ ones_all p ∷ []) [] in
      ap (λ r. told say o.began o.found o.finding (cond o.ended r s)) (line_append PAGE (number ∷ ones_all p ∷ []) [] s)
      ∙ ap (told say o.began o.found o.finding) (cond_append o.ended page s)
      ∙ told_append o.began o.found o.finding (cond o.ended page []) s

  -- they are written one behind the other
  pub wrote_told : {a b c : Writer} (number : ℕ) (o : Ran) (p : List ℕ) → Written a (told say o.began o.found o.finding []) b
      → Written b (cond o.ended (line PAGE (number ∷ ones_all p ∷ []) []) []) c → Written a (printed say number o p []) c
  wrote_told number o p v w = rw (told_append o.began o.found o.finding [] (cond o.ended (line PAGE (number ∷ ones_all p ∷ []) []) [])) (written_both v w)

-- those of the report
pub wrote_ran : {a b c : Writer} (number : ℕ) (o : Ran) (p : List ℕ) → Written a (fault o.found o.finding []) b
    → Written b (cond o.ended (line PAGE (number ∷ ones_all p ∷ []) []) []) c → Written a (printed fault_alone number o p []) c
wrote_ran number o p v w = wrote_told fault_alone alone_ahead number o p v w

-- the report's page is allowed
pub page_allowed : allowed report_width report_height ≡ true
unfolding allowed
page_allowed = refl

-- it is within the largest
pub page_fits : (g : Measure) → g ≡ report_page → Bounded g
page_fits g e = rw e (omega arith, omega arith)

-- the state afresh on it
pub page_afresh : (g : Measure) (t : State) → g ≡ report_page → t ≡ afresh g → t ≡ afresh report_page
page_afresh g t e f = rw e at f

-- ---- runs one behind the other on a page of W by H dots, each on what the one before left: what is known before each
pub record Going (W H : ℕ) (s page : List ℕ) (t : State) (place number findings : ℕ) : Type 0 where
  pub sized : length page ≡ H * (W / 8)
  pub sound : sound (measure_of W H) t ≡ true
  pub shaped : Shaped t.core
  pub placed : place ≤ length s
  pub pages : number + left t.sequence (drop place s) ≤ 2 * length s + 1
  pub found : findings + left t.sequence (drop place s) ≤ 2 * length s

-- the loop that writes the lines of a stream: with the lines that are left all are written
pub record Reporting (W H : ℕ) (s : List ℕ) (before : Writer) (page : List ℕ) (now : Writer) (t : State) (place number findings : ℕ) : Type 0 where
  pub going : Going W H s page t place number findings
  pub ends : (after : Writer) → Written now (lines_left fault_alone (measure_of W H) t (drop place s) place number (page_now (measure_of W H) t page) findings) after
      → Written before (stream_lines fault_alone (measure_of W H) s) after

module _ (W H : ℕ) (allow : allowed W H ≡ true) where
  -- nothing is done yet
  going_fresh : (s page : List ℕ) → length page ≡ H * (W / 8) → Going W H s page (afresh (measure_of W H)) 0 1 0
  unfolding left afresh fresh_core
  going_fresh s page e = record {
    sized = e;
    sound = afresh_is_sound W H allow;
    shaped = fresh_shaped (measure_of W H);
    placed = omega arith;
    pages = omega arith;
    found = omega arith;
  }

  pub going_start : (s page : List ℕ) (t : State) → length page ≡ H * (W / 8) → t ≡ afresh (measure_of W H) → Going W H s page t 0 1 0
  going_start s page t e h = rw h (going_fresh s page e)

  -- nothing is written yet
  fresh : (s : List ℕ) (before : Writer) (page : List ℕ) → length page ≡ H * (W / 8) → Reporting W H s before page before (afresh (measure_of W H)) 0 1 0
  unfolding afresh fresh_core
  fresh s before page e = record { going = going_fresh s page e; ends = λ after w. subst (λ l. Written before l after) (left_whole fault_alone (measure_of W H) s) w }

  pub reporting_start : (s : List ℕ) (before : Writer) (page : List ℕ) (t : State) → length page ≡ H * (W / 8) → t ≡ afresh (measure_of W H)
      → Reporting W H s before page before t 0 1 0
  reporting_start s before page t e h = rw h (fresh s before page e)

  module _ {s page : List ℕ} {t : State} {place number findings : ℕ} (inv : Going W H s page t place number findings) (long : length s ≤ longest_stream) (k : ℕ) {o : Ran}
      {page' : List ℕ} (promise : RunPromise W H page s t place (suc k) o page') where
    abbrev O : Outcome
    O = record { ran = o; page = page' }

    -- what the call gave is a run of the rules
    pub call_ran : run (measure_of W H) (suc k) t place page s ≡ O
    call_ran =
        sym (carried W H page s t place allow inv.sized long inv.sound inv.placed (suc k))
        ∙ (λ j. record { ran = sym promise.given j; page = sym promise.lent j })

    -- a run that did something had something to do
    pub call_more : (o.done ≡ 0 → ⊥) → over t (drop place s) ≡ false
    call_more z = go (over t (drop place s)) refl
      where
        go : (b : Bool) → over t (drop place s) ≡ b → b ≡ false
        go true e = absurd (z (ap (λ (r : Outcome). r.ran.done) (sym call_ran ∙ run_over (measure_of W H) s k t place page e)))
        go false e = refl

    -- it printed what is its to print
    does : (say : Saying) → (o.done ≡ 0 → ⊥) → Prints (measure_of W H) say s t (drop place s) place 0 number (page_now (measure_of W H) t page) findings O
    does say z = subst (Prints (measure_of W H) say s t (drop place s) place 0 number (page_now (measure_of W H) t page) findings) call_ran
        (run_prints (measure_of W H) s k t place page say number findings inv.placed (call_more z))

    -- less is left to read
    pub going_less : (o.done ≡ 0 → ⊥) → left o.state.sequence (drop o.place s) < left t.sequence (drop place s)
    going_less z = let l = (does fault_alone z).less in omega arith

    -- a run with something to do leaves all as it should be
    pub going_again : {i j : ℕ} → (o.done ≡ 0 → ⊥) → length page' ≡ length page → i ≡ cond o.ended 1 0 → j ≡ counted o.finding
        → Going W H s page' o.state o.place (number + i) (findings + j)
    going_again {i} {j} z e x y =
        rw (x, y) record {
          sized = e ∙ inv.sized;
          sound = subst (λ (q : Outcome). sound (measure_of W H) q.ran.state ≡ true) call_ran (run_kept (measure_of W H) (allowed_gives W H allow).fits (suc k) t place page s inv.shaped inv.sound);
          shaped = subst (λ (q : Outcome). Shaped q.ran.state.core) call_ran (run_shaped (measure_of W H) (allowed_gives W H allow).fits.wide (suc k) t place page s inv.shaped);
          placed = (does fault_alone z).inside;
          pages = one o.ended;
          found = one_found (is_clean o.finding);
        }
      where
        one : (b : Bool) → number + cond b 1 0 + left o.state.sequence (drop o.place s) ≤ 2 * length s + 1
        one true = let l = going_less z in let i = inv.pages in omega arith
        one false = let l = going_less z in let i = inv.pages in omega arith

        one_found : (b : Bool) → findings + cond b 0 1 + left o.state.sequence (drop o.place s) ≤ 2 * length s
        one_found true = let l = going_less z in let i = inv.found in omega arith
        one_found false = let l = going_less z in let i = inv.found in omega arith

    -- the lines that were left are those of the run, and those that are left behind it
    pub lines_again : (say : Saying) → Ahead say → (o.done ≡ 0 → ⊥)
        → lines_left say (measure_of W H) t (drop place s) place number (page_now (measure_of W H) t page) findings ≡ printed say number o page' [] ++ behind (measure_of W H) say s number findings O
    lines_again say ahead z = (does say z).lines ∙ printed_append say ahead number o page' (behind (measure_of W H) say s number findings O)

    -- a run that did nothing found the stream at its end
    pub call_over : o.done ≡ 0 → over t (drop place s) ≡ true
    call_over z = run_nothing (measure_of W H) s k t place page (ap (λ (q : Outcome). q.ran.done) call_ran ∙ z)

    -- and left all as it was
    pub call_same : o.done ≡ 0 → O ≡ halted t place 0 page
    call_same z = sym call_ran ∙ run_over (measure_of W H) s k t place page (call_over z)

    -- the lines that were left are the last ones
    pub lines_end : (say : Saying) → o.done ≡ 0
        → last_lines number (world o.state.core page' []) findings ≡ lines_left say (measure_of W H) t (drop place s) place number (page_now (measure_of W H) t page) findings
    lines_end say z =
        ap (λ (q : Outcome). last_lines number (world q.ran.state.core q.page []) findings) (call_same z)
        ∙ seen t.core.used page _
        ∙ sym (left_over say (measure_of W H) t (drop place s) place number (page_now (measure_of W H) t page) findings (call_over z))
      where
        seen : (u : Bool) (a b : List ℕ) → cond u (line PAGE (number ∷ ones_all a ∷ []) b) b ≡ cond u (line PAGE (number ∷ ones_all (cond u a (blank (measure_of W H))) ∷ []) b) b
        seen true a b = refl
        seen false a b = refl

  module _ {s page : List ℕ} {before now : Writer} {t : State} {place number findings : ℕ} (inv : Reporting W H s before page now t place number findings)
      (long : length s ≤ 65536) (k : ℕ) {o : Ran} {page' : List ℕ} (promise : RunPromise W H page s t place (suc k) o page') where
    within : length s ≤ longest_stream
    within = omega arith

    -- less is left to read
    pub reporting_less : (o.done ≡ 0 → ⊥) → left o.state.sequence (drop o.place s) < left t.sequence (drop place s)
    reporting_less z = going_less inv.going within k promise z

    -- the lines of a run are written
    pub reporting_again : {next : Writer} {i j : ℕ} → (o.done ≡ 0 → ⊥) → length page' ≡ length page → i ≡ cond o.ended 1 0 → j ≡ counted o.finding
        → Written now (printed fault_alone number o page' []) next → Reporting W H s before page' next o.state o.place (number + i) (findings + j)
    reporting_again z e x y v = record {
      going = going_again inv.going within k promise z e x y;
      ends = λ after u. inv.ends after (rw (lines_again inv.going within k promise fault_alone alone_ahead z, ← x, ← y) (written_both v u));
    }

    -- the last lines are written
    pub reporting_end : {after : Writer} → o.done ≡ 0 → Written now (last_lines number (world o.state.core page' []) findings) after → Written before (stream_lines fault_alone (measure_of W H) s) after
    reporting_end {after} z w = inv.ends after (subst (λ l. Written now l after) (lines_end inv.going within k promise fault_alone z) w)
