-- A run keeps the size of its page, and all pages of a stream have it. Assumes nothing.
use mathlib.Core.Path.{◌≡◌, refl, ap₂, ◌∙◌}
use Prim.Native.Nat.{ℕ, zero, suc, ◌+◌, ◌/◌, ◌≤◌}
use native.Mathlib.Omega.{arith}
use mathlib.Core.List.{List, [], ◌∷◌, ◌++◌, append-nil, head-eq_of_cons-eq, tail-eq_of_cons-eq}
use mathlib.Core.Bool.{Bool, true, false, cond, ◌&&◌, ◌||◌}
use lib.Dec.{eqb}
use lib.ListN.{length, drop, replicate, length-replicate}
use Rattle.common.specs.Lists.{is_nil}
use Rattle.common.proofs.Choices.{choice}
use Rattle.rules.specs.declared.Measure.{Measure}
use Rattle.rules.specs.declared.Core.{Core}
use Rattle.rules.specs.declared.State.{State}
use Rattle.rules.specs.Measure.{dot_unit, page_bytes, blank}
use Rattle.rules.specs.Findings.{is_clean}
use Rattle.rules.specs.Acts.{Act, type, control, escape, order, print, draw, begun, next, ends_page, shown, World, world, show, show_all, step, over}
use Rattle.rules.specs.Run.{Outcome, page_of, run_from, readied, run, acts, first_world, pages}
use Rattle.theorems.proofs.Inks.{painted_length}
use Rattle.theorems.proofs.Pages.{step_single}
use Rattle.pages_step.specs.Sheets.{sizes, PagesAreWhole}

module _ (g : Measure) where
  -- what an act shows
  shown_length : (a : Act) (c : Core) (p : List ℕ) → length (shown g a c p) ≡ length p
  unfolding shown
  shown_length (type b) c p = refl
  shown_length (control k) c p = refl
  shown_length (escape k) c p = refl
  shown_length (order k v) c p = refl
  shown_length (print s) c p = refl
  shown_length (draw row) c p = let b = begun c in painted_length g.wide row (300 / b.raster.resolution) (b.raster.margin / dot_unit) (b.at.y / dot_unit) p

  -- a world whose page, and whose first page handed over, has so many bytes
  record Sized (n : ℕ) (w : World) : Type 0 where
    page : length w.page ≡ n
    first : length (page_of w.handed w.page) ≡ n

  -- an item's acts keep the size
  item_sized : (l : List Act) (c : Core) (p : List ℕ) → length l ≤ 1 → length p ≡ page_bytes g → Sized (page_bytes g) (show_all g l (world c p []))
  unfolding show_all show
  item_sized [] c p h e = record { page = e; first = e }
  item_sized (a ∷ []) c p h e =
      let f : length (shown g a c p) ≡ page_bytes g = shown_length a c p ∙ e in
      choice (Sized (page_bytes g)) (ends_page a c) {a = world (next g a c) (blank g) (shown g a c p ∷ [])} {b = world (next g a c) (shown g a c p) []}
      record { page = length-replicate (page_bytes g) 0; first = f } record { page = f; first = f }
  item_sized (a ∷ b ∷ l) c p h e = absurd (omega arith)

  -- a run keeps it
  from_sized : (k done at : ℕ) (t : State) (p s : List ℕ) → length p ≡ page_bytes g → length (run_from g k done at t p s).page ≡ page_bytes g
  unfolding run_from
  from_sized zero done at t p s e = e
  from_sized (suc k) done at t p s e =
      let i = item_sized (step g t s).done.acts t.core p (step_single g t s) e in
      choice (λ (o : Outcome). length o.page ≡ page_bytes g) (over t s) e
      (choice (λ (o : Outcome). length o.page ≡ page_bytes g) (is_clean (step g t s).done.finding && is_nil (show_all g (step g t s).done.acts (world t.core p [])).handed)
      (from_sized k (done + 1) (at + (step g t s).done.took) (step g t s).state _ (step g t s).rest i.page)
      i.first)

  pub run_sized : (k : ℕ) (t : State) (at : ℕ) (p stream : List ℕ) → length p ≡ page_bytes g → length (run g k t at p stream).page ≡ page_bytes g
  unfolding run
  run_sized k t at p stream e = from_sized k 0 at t (readied g k t p (drop at stream)) (drop at stream) (ready (t.core.used || eqb k 0 || over t (drop at stream)))
    where
      ready : (b : Bool) → length (cond b p (blank g)) ≡ page_bytes g
      ready true = e
      ready false = length-replicate (page_bytes g) 0

  -- ---- all pages of a stream
  -- so many bytes each, with one more page behind them
  more_sized : (l : List (List ℕ)) (p : List ℕ) → sizes l ≡ replicate (length l) (page_bytes g) → length p ≡ page_bytes g
      → sizes (l ++ (p ∷ [])) ≡ replicate (length (l ++ (p ∷ []))) (page_bytes g)
  unfolding sizes
  more_sized [] p h e = rw e
  more_sized (q ∷ l) p h e = ap₂ ◌∷◌ (head-eq_of_cons-eq h) (more_sized l p (tail-eq_of_cons-eq h) e)

  record AllSized (w : World) : Type 0 where
    page : length w.page ≡ page_bytes g
    handed : sizes w.handed ≡ replicate (length w.handed) (page_bytes g)

  show_sized : (a : Act) (w : World) → AllSized w → AllSized (show g a w)
  unfolding show
  show_sized a w h =
      let f : length (shown g a w.core w.page) ≡ page_bytes g = shown_length a w.core w.page ∙ h.page in
      choice AllSized (ends_page a w.core) {a = world (next g a w.core) (blank g) (w.handed ++ (shown g a w.core w.page ∷ []))}
      {b = world (next g a w.core) (shown g a w.core w.page) w.handed}
      record { page = length-replicate (page_bytes g) 0; handed = more_sized w.handed (shown g a w.core w.page) h.handed f } record { page = f; handed = h.handed }

  all_sized : (l : List Act) (w : World) → AllSized w → AllSized (show_all g l w)
  unfolding show_all
  all_sized [] w h = h
  all_sized (a ∷ l) w h = all_sized l (show g a w) (show_sized a w h)

-- all pages of a stream have H rows of W/8 bytes
pub pages_are_whole : PagesAreWhole
unfolding pages
pages_are_whole g s =
    let w : World = show_all g (acts g s) (first_world g) in
    let h : AllSized g w = all_sized g (acts g s) (first_world g) (unfold sizes in record { page = length-replicate (page_bytes g) 0; handed = refl }) in
    go w h w.core.used
  where
    go : (w : World) → AllSized g w → (u : Bool) → sizes (w.handed ++ cond u (w.page ∷ []) []) ≡ replicate (length (w.handed ++ cond u (w.page ∷ []) [])) (page_bytes g)
    go w h true = more_sized g w.handed w.page h.handed h.page
    go w h false = rw append-nil h.handed
