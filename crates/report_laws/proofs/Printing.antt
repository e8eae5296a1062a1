-- What a run prints of the lines that are left. Assumes nothing.
use mathlib.Core.Path.{◌≡◌, refl, ap, sym, ◌∙◌}
use Prim.Native.Nat.{ℕ, zero, suc, ◌+◌, ◌-◌, ◌≤◌}
use native.Mathlib.Nat.{add-zero}
use native.Mathlib.Omega.{arith}
use mathlib.Core.List.{List, [], ◌∷◌}
use mathlib.Core.Bool.{Bool, true, false, cond, not, ◌&&◌, ◌||◌}
use lib.ListN.{length, drop, length-drop}
use lib.Seq.{drop-drop}
use lib.Dec.{eqb-suc-zero}
use Rattle.common.specs.Lists.{is_nil}
use Rattle.common.specs.Bits.{ones_all}
use Rattle.common.proofs.Choices.{choice_by}
use Rattle.rules.specs.declared.Measure.{Measure}
use Rattle.rules.specs.declared.Finding.{Finding}
use Rattle.rules.specs.Given.{Carried}
use Rattle.rules.specs.declared.Spot.{Spot}
use Rattle.rules.specs.declared.State.{State}
use Rattle.rules.specs.Measure.{blank, origin}
use Rattle.rules.specs.Findings.{is_clean, finding_number}
use Rattle.rules.specs.Acts.{World, world, show_all, Step, step, over}
use Rattle.rules.specs.Run.{Outcome, outcome, halted, page_of, place_of, spot_of, run_from, readied, run}
use Rattle.rules.specs.Report.{line, PAGE, page_lines, Saying, counted, told}
use Rattle.theorems.proofs.Reading.{left}
use Rattle.theorems.proofs.Streams.{step_left}
use Rattle.theorems.proofs.Suffixes.{step_rest, step_took}
use Rattle.theorems.proofs.Pages.{Blank, show_all-blank, step_single, item_unused}
use Rattle.theorems.proofs.Runs.{does_one}
use Rattle.report_laws.specs.Left.{page_now, lines_left, printed}
use Rattle.report_laws.proofs.Items.{core_next, core_is, left_step, turned}

-- what is said of a finding has the place of its item, and where that began
told_place : (say : Saying) (began : Spot) (at : ℕ) (f : Finding) (s : List ℕ) → told say began at f s ≡ told say (spot_of f began) (place_of f at) f s
told_place say began at f s = go (is_clean f)
  where
    go : (b : Bool) → cond b s (say began at (finding_number f) s) ≡ cond b s (say (cond b origin began) (cond b 0 at) (finding_number f) s)
    go true = refl
    go false = refl

module _ (g : Measure) where
  -- a page that is blank where it is not used is the page that is being drawn
  pub page_now-is : (t : State) (p : List ℕ) → Blank g (world t.core p []) → p ≡ page_now g t p
  page_now-is t p h = choice_by (λ q. p ≡ q) t.core.used (λ e. refl) h

  module _ (say : Saying) (stream : List ℕ) where
    -- the lines that are left where an outcome leaves off
    abbrev pub behind : ℕ → ℕ → Outcome → List ℕ
    behind number n o =
        lines_left say g o.ran.state (drop o.ran.place stream) o.ran.place (number + cond o.ran.ended 1 0) (page_now g o.ran.state o.page)
        (n + counted o.ran.finding)

    -- what an outcome prints of the lines that were left, and how much less is left to read
    pub record Prints (t : State) (s : List ℕ) (at done number : ℕ) (p : List ℕ) (n : ℕ) (o : Outcome) : Type 0 where
      pub lines : lines_left say g t s at number p n ≡ printed say number o.ran o.page (behind number n o)
      pub less : left o.ran.state.sequence (drop o.ran.place stream) + o.ran.done ≤ left t.sequence s + done
      pub inside : o.ran.place ≤ length stream

    module _ (t : State) (s : List ℕ) (at done number : ℕ) (p : List ℕ) (n : ℕ) (here : s ≡ drop at stream) (low : at ≤ length stream) (b : Blank g (world t.core p [])) where
      halted_prints : Prints t s at done number p n (halted t at done p)
      halted_prints = record {
        lines = rw (add-zero number, add-zero n, ← here, ← page_now-is t p b);
        less = rw (← here) (omega arith);
        inside = low;
      }

      module _ (e : over t s ≡ false) where
        abbrev S : Step
        S = step g t s

        abbrev W : World
        W = show_all g S.done.acts (world t.core p [])

        abbrev at' : ℕ
        at' = at + S.done.took

        -- the place behind the item
        there : S.rest ≡ drop at' stream
        there = step_rest g t s ∙ ap (drop S.done.took) here ∙ drop-drop S.done.took at stream

        -- it is not beyond the end
        there_low : at' ≤ length stream
        there_low = let k = step_took g t s in let l : length s ≡ length stream - at = ap length here ∙ length-drop at stream in omega arith

        -- an unused page is blank behind the item too
        still_blank : Blank g (world S.state.core W.page [])
        still_blank u = show_all-blank g S.done.acts (world t.core p []) b (ap (λ c. c.used) (core_is g t s e p) ∙ u)

        -- the page behind the item, where one was ended and where none was
        page_behind : (ds : List (List ℕ)) → W.handed ≡ ds → cond (is_nil ds) W.page (blank g) ≡ page_now g S.state (page_of ds W.page)
        page_behind [] q = page_now-is S.state W.page still_blank
        page_behind (d ∷ ds) q = rw unused
          where
            unused : S.state.core.used ≡ false
            unused = ap (λ c. c.used) (sym (core_next g t s e)) ∙ item_unused g S.done.acts t.core p (step_single g t s) (rw q)

        -- the lines behind the item
        abbrev rest : List (List ℕ) → List ℕ
        rest ds = lines_left say g S.state (drop at' stream) at' (number + cond (not (is_nil ds)) 1 0) (page_now g S.state (page_of ds W.page)) (n + counted S.done.finding)

        -- the lines are the item's finding, the page that it ended, and those behind it
        paged : (ds : List (List ℕ)) → W.handed ≡ ds
            → lines_left say g t s at number p n
            ≡ told say t.core.at at S.done.finding (cond (not (is_nil ds)) (line PAGE (number ∷ ones_all (page_of ds W.page) ∷ []) (rest ds)) (rest ds))
        unfolding page_lines
        paged [] q = left_step g t s e say at number p n W.page [] (turned g t s e p [] q) ∙ rw (there, ← page_behind [] q)
        paged (d ∷ ds) q = left_step g t s e say at number p n (blank g) (d ∷ []) (turned g t s e p (d ∷ ds) q) ∙ rw (there, ← page_behind (d ∷ ds) q)

        -- the run stops behind the item
        stop_prints : (ds : List (List ℕ)) → W.handed ≡ ds
            → Prints t s at done number p n (outcome Carried S.state at' S.done.finding (place_of S.done.finding at) (spot_of S.done.finding t.core.at) (not (is_nil ds)) (done + 1) (page_of ds W.page))
        stop_prints ds q = record {
          lines = paged ds q ∙ told_place say t.core.at at S.done.finding _;
          less = rw (← there) (let l = step_left g t s e in omega arith);
          inside = there_low;
        }

        -- the run goes on behind the item
        more_prints : (o : Outcome) → is_clean S.done.finding ≡ true → W.handed ≡ [] → Prints S.state S.rest at' (done + 1) number W.page n o
            → Prints t s at done number p n o
        more_prints o k q f = record {
          lines = paged [] q ∙ rw (k, add-zero number, add-zero n, ← page_behind [] q, ← there) f.lines;
          less = let l = step_left g t s e in let m = f.less in omega arith;
          inside = f.inside;
        }

        -- one or the other
        turn_prints : (c : Bool) (ds : List (List ℕ)) (o : Outcome) → is_clean S.done.finding ≡ c → W.handed ≡ ds → Prints S.state S.rest at' (done + 1) number W.page n o
            → Prints t s at done number p n (cond (c && is_nil ds) o (outcome Carried S.state at' S.done.finding (place_of S.done.finding at) (spot_of S.done.finding t.core.at) (not (is_nil ds)) (done + 1) (page_of ds W.page)))
        turn_prints true [] o k q f = more_prints o k q f
        turn_prints false [] o k q f = stop_prints [] q
        turn_prints true (d ∷ ds) o k q f = stop_prints (d ∷ ds) q
        turn_prints false (d ∷ ds) o k q f = stop_prints (d ∷ ds) q

    -- from any place on
    prints : (k : ℕ) (t : State) (s : List ℕ) (at done number : ℕ) (p : List ℕ) (n : ℕ) → s ≡ drop at stream → at ≤ length stream → Blank g (world t.core p [])
        → Prints t s at done number p n (run_from g k done at t p s)
    unfolding run_from
    prints zero t s at done number p n here low b = halted_prints t s at done number p n here low b
    prints (suc k) t s at done number p n here low b = choice_by (Prints t s at done number p n) (over t s) {a = halted t at done p} (λ e. halted_prints t s at done number p n here low b)
        (λ e. turn_prints t s at done number p n here low b e (is_clean (step g t s).done.finding) (show_all g (step g t s).done.acts (world t.core p [])).handed _ refl refl
        (prints k (step g t s).state (step g t s).rest (at + (step g t s).done.took) (done + 1) number (show_all g (step g t s).done.acts (world t.core p [])).page n
        (there t s at done number p n here low b e) (there_low t s at done number p n here low b e) (still_blank t s at done number p n here low b e)))

  module _ (stream : List ℕ) where
    module _ (k : ℕ) (t : State) (at : ℕ) (buffer : List ℕ) where
      -- a run with items to do begins with the page that is being drawn, whatever the buffer holds
      pub run_readied : over t (drop at stream) ≡ false → run g (suc k) t at buffer stream ≡ run_from g (suc k) 0 at t (page_now g t buffer) (drop at stream)
      unfolding run
      run_readied e = rw (e, eqb-suc-zero k, ready t.core.used)
        where
          ready : (u : Bool) → cond (u || false || false) buffer (blank g) ≡ cond u buffer (blank g)
          ready true = refl
          ready false = refl

      -- which is blank where it is unused
      pub page_now-blank : Blank g (world t.core (page_now g t buffer) [])
      page_now-blank u = rw u

      -- it prints what is its to print
      pub run_prints : (say : Saying) (number n : ℕ) → at ≤ length stream → over t (drop at stream) ≡ false
          → Prints say stream t (drop at stream) at 0 number (page_now g t buffer) n (run g (suc k) t at buffer stream)
      run_prints say number n low e = rw (run_readied e) (prints say stream (suc k) t (drop at stream) at 0 number (page_now g t buffer) n refl low page_now-blank)

      -- a run with nothing to do leaves all as it is
      pub run_over : over t (drop at stream) ≡ true → run g (suc k) t at buffer stream ≡ halted t at 0 buffer
      unfolding run run_from
      run_over e = rw (e, eqb-suc-zero k) (go t.core.used)
        where
          go : (u : Bool) → halted t at 0 (cond (u || false || true) buffer (blank g)) ≡ halted t at 0 buffer
          go true = refl
          go false = refl

      -- a run that did nothing had nothing to do
      pub run_nothing : (run g (suc k) t at buffer stream).ran.done ≡ 0 → over t (drop at stream) ≡ true
      unfolding run
      run_nothing z = go (over t (drop at stream)) refl
        where
          go : (b : Bool) → over t (drop at stream) ≡ b → b ≡ true
          go true e = refl
          go false e = absurd (let h = does_one g k t (readied g (suc k) t buffer (drop at stream)) (drop at stream) at 0 e in omega arith)
