-- The pages that are left: a run hands over the first of them or none. Assumes nothing.
use mathlib.Core.Path.{◌≡◌, refl, ap, ap₂, sym, ◌∙◌, subst}
use Prim.Native.Nat.{ℕ, suc, ◌+◌, ◌*◌}
use native.Mathlib.Numerals.{add-one}
use mathlib.Core.List.{List, [], ◌∷◌, ◌++◌, append_assoc, append-nil}
use mathlib.Core.Bool.{Bool, true, false, cond}
use lib.ListN.{length, drop}
use Rattle.rules.specs.declared.Measure.{Measure}
use Rattle.rules.specs.declared.Core.{Core}
use Rattle.rules.specs.declared.State.{State}
use Rattle.rules.specs.Measure.{blank}
use Rattle.rules.specs.States.{afresh}
use Rattle.rules.specs.Acts.{Act, next, ends_page, shown, World, world, show, show_all, over}
use Rattle.rules.specs.Run.{Outcome, run, Trace, trace, enough, whole_stream, acts_of, acts, pages}
use Rattle.theorems.proofs.Streams.{to_end}
use Rattle.theorems.proofs.Pages.{Blank, show_all-append, show_all-blank}
use Rattle.theorems.proofs.Runs.{left_by, Follows, follows}
use Rattle.theorems.proofs.Jobs.{then, acts_of-append, split, same_end}
use Rattle.report_laws.specs.Left.{page_now}
use Rattle.report_laws.proofs.Items.{left_enough}
use Rattle.report_laws.proofs.Printing.{page_now-is, page_now-blank, run_readied}
use Rattle.pages_step.specs.Sheets.{page_sheets}
use Rattle.pages_step.specs.Left.{pages_left}

module _ (g : Measure) where
  -- a world with pages handed over before
  abbrev before : List (List ℕ) → World → World
  before d w = world w.core w.page (d ++ w.handed)

  show_before : (a : Act) (d : List (List ℕ)) (w : World) → show g a (before d w) ≡ before d (show g a w)
  unfolding show
  show_before a d w = go (ends_page a w.core)
    where
      P : List ℕ
      P = shown g a w.core w.page

      go : (b : Bool) → cond b (world (next g a w.core) (blank g) ((d ++ w.handed) ++ (P ∷ []))) (world (next g a w.core) P (d ++ w.handed))
          ≡ before d (cond b (world (next g a w.core) (blank g) (w.handed ++ (P ∷ []))) (world (next g a w.core) P w.handed))
      go true = ap (world (next g a w.core) (blank g)) (append_assoc d w.handed (P ∷ []))
      go false = refl

  show_all-before : (l : List Act) (d : List (List ℕ)) (w : World) → show_all g l (before d w) ≡ before d (show_all g l w)
  unfolding show_all
  show_all-before [] d w = refl
  show_all-before (a ∷ l) d w = ap (show_all g l) (show_before a d w) ∙ show_all-before l d (show g a w)

  -- pages handed over before stand in front
  sheets_before : (l : List Act) (c : Core) (p : List ℕ) (d : List (List ℕ)) → page_sheets (show_all g l (world c p d)) ≡ d ++ page_sheets (show_all g l (world c p []))
  sheets_before l c p d =
      let w : World = show_all g l (world c p []) in
      ap (λ h. page_sheets (show_all g l (world c p h))) (sym (append-nil d))
      ∙ ap page_sheets (show_all-before l d (world c p []))
      ∙ append_assoc d w.handed (cond w.core.used (w.page ∷ []) [])

  -- the pages of a whole stream are those that are left at its start
  pub pages_whole : (s : List ℕ) → pages_left g (afresh g) s (blank g) ≡ page_sheets (pages g s)
  unfolding pages_left pages acts whole_stream afresh
  pages_whole s = refl

  -- at its end a stream has the last page alone, if it is used
  pub pages_over : (t : State) (s p : List ℕ) → over t s ≡ true → pages_left g t s p ≡ cond t.core.used (p ∷ []) []
  unfolding pages_left trace acts_of show_all
  pages_over t s p e = ap (λ k. page_sheets (show_all g (acts_of (trace g k t s).items) (world t.core p []))) (add-one (2 * length s)) ∙ rw e

  module _ (stream : List ℕ) (t : State) (p s : List ℕ) (at : ℕ) (o : Outcome) (here : s ≡ drop at stream) (b : Blank g (world t.core p [])) (f : Follows g t p s at 0 o) where
    abbrev R : List ℕ
    R = drop o.ran.place stream

    abbrev rest : Trace
    rest = trace g (enough R) o.ran.state R

    -- the items are those of the run, and those behind it
    joined : trace g (f.items + enough R) t s ≡ then (trace g f.items t s) rest
    joined = split g f.items (enough R) t s ∙ ap₂ (λ u l. then (trace g f.items t s) (trace g (enough R) u l)) f.state (f.rest stream here)

    all_items : trace g (enough s) t s ≡ then (trace g f.items t s) rest
    all_items =
        same_end g (enough s) (f.items + enough R) t s (to_end g (enough s) t s (left_enough t.sequence s))
        (rw joined (to_end g (enough R) o.ran.state R (left_enough o.ran.state.sequence R)))
        ∙ joined

    -- all that is shown, from what the run left on
    all_shown : show_all g (acts_of (trace g (enough s) t s).items) (world t.core p []) ≡ show_all g (acts_of rest.items) (left_by g o [])
    all_shown =
        ap (λ (r : Trace). show_all g (acts_of r.items) (world t.core p [])) all_items
        ∙ ap (λ l. show_all g l (world t.core p [])) (acts_of-append (trace g f.items t s).items rest.items)
        ∙ show_all-append g (acts_of (trace g f.items t s).items) (acts_of rest.items) (world t.core p [])
        ∙ ap (show_all g (acts_of rest.items)) (f.pages [])

    -- an unused page is blank behind the run too
    still_blank : Blank g (left_by g o [])
    still_blank = subst (Blank g) (f.pages []) (show_all-blank g (acts_of (trace g f.items t s).items) (world t.core p []) b)

    -- the page that is drawn behind the run
    page_behind : cond o.ran.ended (blank g) o.page ≡ page_now g o.ran.state o.page
    unfolding left_by
    page_behind = go o.ran.ended refl still_blank
      where
        go : (e : Bool) → o.ran.ended ≡ e → Blank g (cond e (world o.ran.state.core (blank g) ([] ++ (o.page ∷ []))) (world o.ran.state.core o.page []))
            → cond e (blank g) o.page ≡ page_now g o.ran.state o.page
        go true e k = rw (f.unused e)
        go false e k = page_now-is g o.ran.state o.page k

    -- the pages that were left are the one that the run ended, and those that are left behind it
    follows_pages : pages_left g t s p ≡ cond o.ran.ended (o.page ∷ []) [] ++ pages_left g o.ran.state R (page_now g o.ran.state o.page)
    unfolding pages_left left_by
    follows_pages = ap page_sheets all_shown ∙ go o.ran.ended ∙ ap (λ q. cond o.ran.ended (o.page ∷ []) [] ++ page_sheets (show_all g (acts_of rest.items) (world o.ran.state.core q []))) page_behind
      where
        go : (e : Bool) → page_sheets (show_all g (acts_of rest.items) (cond e (world o.ran.state.core (blank g) ([] ++ (o.page ∷ []))) (world o.ran.state.core o.page [])))
            ≡ cond e (o.page ∷ []) [] ++ page_sheets (show_all g (acts_of rest.items) (world o.ran.state.core (cond e (blank g) o.page) []))
        go true = sheets_before (acts_of rest.items) o.ran.state.core (blank g) (o.page ∷ [])
        go false = refl

  -- the same of a run with items to do, on a buffer that holds anything where the page is unused
  pub run_pages : (stream : List ℕ) (k : ℕ) (t : State) (at : ℕ) (buffer : List ℕ) (o : Outcome) → over t (drop at stream) ≡ false → run g (suc k) t at buffer stream ≡ o
      → pages_left g t (drop at stream) (page_now g t buffer) ≡ cond o.ran.ended (o.page ∷ []) [] ++ pages_left g o.ran.state (drop o.ran.place stream) (page_now g o.ran.state o.page)
  run_pages stream k t at buffer o e q = follows_pages stream t (page_now g t buffer) (drop at stream) at o refl (page_now-blank g stream k t at buffer)
      (subst (Follows g t (page_now g t buffer) (drop at stream) at 0) (sym (run_readied g stream k t at buffer e) ∙ q) (follows g (suc k) t (page_now g t buffer) (drop at stream) at 0))
