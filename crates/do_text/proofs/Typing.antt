-- Text, byte by byte. Assumes nothing.
use mathlib.Core.Path.{◌≡◌, refl, sym, ap, ◌∙◌}
use mathlib.Core.Bool.{Bool, not, ◌||◌}
use mathlib.Core.List.{List}
use Prim.Native.Nat.{ℕ, ◌+◌, ◌≤◌, ◌<◌}
use lib.Dec.{eqb}
use lib.ListN.{length, drop, get_or, drop_of_length-le}
use Rattle.common.proofs.Places.{cut}
use Rattle.rules.specs.declared.Measure.{Measure}
use Rattle.rules.specs.declared.Spot.{Spot}
use Rattle.rules.specs.declared.Layout.{Layout}
use Rattle.rules.specs.declared.Core.{Core}
use Rattle.rules.specs.States.{with_at, with_layout, with_used, fresh_core}
use Rattle.rules.specs.Codes.{typed, typed_all}
use Rattle.state_pen.specs.declared.Pen.{Pen}
use Rattle.state_pen.specs.Pens.{core_of}
use Rattle.do_text.specs.Cursor.{typed_spot, typed_pen, TypedAll, OneTypedAll}

-- the core of a pen behind a byte is what the rules type
pub typed_core : (g : Measure) (b : ℕ) (n n' : Pen) (l : List Spot) (seed : List ℕ) → n' ≡ typed_pen g n b → core_of n' l seed ≡ typed g b (core_of n l seed)
unfolding typed
typed_core g b n n' l seed e = rw e

-- text so far leaves the cursor at p and the page used or not; what is left of it makes the whole
abbrev pub Typing : Measure → List ℕ → Spot → Layout → Bool → Spot → Bool → ℕ → Type 0
Typing g s from l was p u i = (c : Core) → from ≡ c.at → l ≡ c.layout → was ≡ c.used → typed_all g s c ≡ typed_all g (drop i s) (with_used u (with_at p c))

module _ (g : Measure) (s : List ℕ) (from : Spot) (l : Layout) (was : Bool) where
  -- no byte yet
  pub typing_first : Typing g s from l was from was 0
  typing_first = λ c x y z. rw (x, z)

  module _ (p : Spot) (u : Bool) (i : ℕ) (inv : Typing g s from l was p u i) where
    -- one byte more
    pub typing_more : (q : Spot) (w : Bool) → i < length s → q ≡ typed_spot g p l → w ≡ (u || not (eqb (get_or s i 0) 32)) → Typing g s from l was q w (i + 1)
    unfolding typed_all typed
    typing_more q w h e f = λ c x y z. rw (e, f, y) (inv c x y z ∙ ap (λ (k : List ℕ). typed_all g k (with_used u (with_at p c))) (cut s i h))

    -- no byte more
    pub typing_ends : length s ≤ i → TypedAll g s from l was (record { at = p; used = u })
    unfolding typed_all
    typing_ends h = λ c x y z. sym (inv c x y z ∙ ap (λ (k : List ℕ). typed_all g k (with_used u (with_at p c))) (drop_of_length-le s h))

-- the core afresh, with the cursor, the layout and the flag given, tells both
pub one_typed_all : OneTypedAll
one_typed_all g s p l u r r' h h' =
    let c = with_used u (with_at p (with_layout l (fresh_core g))) in
    let e = h c refl refl refl ∙ sym (h' c refl refl refl) in
    λ i. record { at = (e i).at; used = (e i).used }
