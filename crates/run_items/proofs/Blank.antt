-- A page that was blank is blank as long as it is unused, and so is an unused page that an item ends. Assumes nothing.
use mathlib.Core.Path.{◌≡◌, refl, sym, ap, ◌∙◌}
use mathlib.Core.Bool.{Bool, true, false, cond, not, false≢true}
use mathlib.Core.List.{List, [], ◌∷◌}
use Prim.Native.Nat.{ℕ, ◌≤◌}
use native.Mathlib.Omega.{arith}
use lib.ListN.{length, drop}
use Rattle.common.specs.Lists.{is_nil}
use Rattle.rules.specs.declared.Measure.{Measure}
use Rattle.rules.specs.declared.Core.{Core}
use Rattle.rules.specs.declared.State.{State}
use Rattle.rules.specs.Measure.{blank}
use Rattle.rules.specs.Acts.{Act, type, control, escape, order, print, draw, next, next_all, ends_page, shown, world, show, show_all, step}
use Rattle.rules.specs.Run.{page_of}
use Rattle.theorems.proofs.Pages.{step_single, show_all-core, show_all-blank}
use Rattle.run_items.specs.Turns.{Taken, shown_by, ItemDone, StillBlank}

-- on a page that was blank at first nothing was drawn as long as it is unused
abbrev pub Undrawn : Measure → List ℕ → Bool → List ℕ → Type 0
Undrawn g first used p = first ≡ blank g → used ≡ false → p ≡ blank g

-- no page was handed over: the page is the one that is being drawn
pub page_none : (h : List (List ℕ)) (q : List ℕ) → is_nil h ≡ true → page_of h q ≡ q
page_none [] q e = refl
page_none (p ∷ h) q e = absurd (false≢true e)

-- "A page end hands the buffer over as it is"
ends_as_is : (g : Measure) (a : Act) (c : Core) (p : List ℕ) → ends_page a c ≡ true → shown g a c p ≡ p
unfolding ends_page shown
ends_as_is g (type b) c p e = refl
ends_as_is g (control k) c p e = refl
ends_as_is g (escape k) c p e = refl
ends_as_is g (order k v) c p e = refl
ends_as_is g (print s) c p e = refl
ends_as_is g (draw row) c p e = absurd (false≢true e)

handed_as_is : (g : Measure) (l : List Act) (c : Core) (p : List ℕ) → length l ≤ 1 → not (is_nil (show_all g l (world c p [])).handed) ≡ true
    → page_of (show_all g l (world c p [])).handed (show_all g l (world c p [])).page ≡ p
unfolding show_all show
handed_as_is g [] c p h e = refl
handed_as_is g (a ∷ []) c p h e = go (ends_page a c) refl e
  where
    go : (t : Bool) → ends_page a c ≡ t → not (is_nil (cond t (world (next g a c) (blank g) (shown g a c p ∷ [])) (world (next g a c) (shown g a c p) [])).handed) ≡ true
        → page_of (cond t (world (next g a c) (blank g) (shown g a c p ∷ [])) (world (next g a c) (shown g a c p) [])).handed (cond t (world (next g a c) (blank g) (shown g a c p ∷ [])) (world (next g a c) (shown g a c p) [])).page ≡ p
    go true q k = ends_as_is g a c p q
    go false q k = absurd (false≢true k)
handed_as_is g (a ∷ b ∷ l) c p h e = absurd (omega arith)

module _ {g : Measure} {t : State} {p s : List ℕ} {at : ℕ} {r : Taken} {after : List ℕ} (d : ItemDone g t p s at r after) (first : List ℕ) (h : Undrawn g first t.core.used p) where
  -- an item that ends the page, which was unused
  blank_ended : r.ended ≡ true → t.core.used ≡ false → first ≡ blank g → after ≡ blank g
  blank_ended e u k =
      d.page ∙ handed_as_is g (step g t (drop at s)).done.acts t.core p (step_single g t (drop at s)) (sym d.ended ∙ e) ∙ h k u

  -- an item that ends no page
  pub blank_goes : is_nil (shown_by g (step g t (drop at s)) t p).handed ≡ true → Undrawn g first r.state.core.used after
  unfolding step
  blank_goes n k u =
      let l = (step g t (drop at s)).done.acts in
      let w = shown_by g (step g t (drop at s)) t p in
      let e : (next_all g l t.core).used ≡ false = sym (ap (λ (x : State). x.core.used) d.state) ∙ u in
      d.page ∙ page_none w.handed w.page n ∙ show_all-blank g l (world t.core p []) (h k) (ap (λ (x : Core). x.used) (show_all-core g l (world t.core p [])) ∙ e)

  -- an item behind which the page is unused, or that ended an unused one
  pub blank_behind : cond r.ended t.core.used r.state.core.used ≡ false → first ≡ blank g → after ≡ blank g
  blank_behind u k = go r.ended refl u
    where
      on : (b : Bool) → false ≡ not b → b ≡ true
      on true z = refl
      on false z = absurd (false≢true z)

      go : (b : Bool) → r.ended ≡ b → cond b t.core.used r.state.core.used ≡ false → after ≡ blank g
      go true e v = blank_ended e v k
      go false e v = blank_goes (on (is_nil (shown_by g (step g t (drop at s)) t p).handed) (sym e ∙ d.ended)) k v

-- ---- what a run knows of the page
-- all that was known before where the page is unused, or was when it was ended; else nothing
pub blank_known : (g : Measure) (p : List ℕ) (known : ℕ) (p' : List ℕ) (left : ℕ) (u : Bool) → left ≡ cond u 0 known → (u ≡ false → p ≡ blank g → p' ≡ blank g) → StillBlank g p known p' left
blank_known g p known p' left true e h = record { few = omega arith; still = λ n k. absurd (omega arith) }
blank_known g p known p' left false e h = record { few = omega arith; still = λ n k. h refl k }
