-- Codes and two-byte commands, step by step. Assumes nothing.
use mathlib.Core.Path.{◌≡◌, refl, sym, ap, ◌∙◌}
use mathlib.Core.Bool.{Bool, true, false, cond, ◌||◌}
use lib.Dec.{eqb, ltb}
use Prim.Native.Nat.{ℕ, ◌+◌, ◌*◌, ◌-◌, ◌/◌, max}
use borrow.Author.Tests.{eq-eqb, ne_eqb}
use Rattle.rules.specs.declared.Measure.{Measure}
use Rattle.rules.specs.declared.Spot.{Spot}
use Rattle.rules.specs.declared.Code.TheVariants.{CarriageReturn, LineFeed, FormFeed, Backspace, Tab}
use Rattle.rules.specs.declared.Layout.{Layout}
use Rattle.rules.specs.declared.Core.{Core}
use Rattle.rules.specs.Measure.{into_width, into_height, spot}
use Rattle.rules.specs.States.{at_x, at_y, with_at, with_layout, with_used, first_line_at, fresh_core}
use Rattle.rules.specs.Codes.{carriage_return, line_feed, first_line, feeds_on_return, returns_on_feed, coded}
use Rattle.rules.specs.Acts.{ends_page}
use Rattle.do_text.specs.Cursor.{forward_spot}
use Rattle.do_code.specs.Moved.{Moved, OneMove}

-- ---- codes

module _ (g : Measure) (p : Spot) (l : Layout) where
  -- CR, and LF behind it or not
  pub returned : (back r : Spot) → back ≡ at_x (into_width g l.left) p → r ≡ cond (eqb l.termination 1 || eqb l.termination 3) (at_y (into_height g (back.y + l.vmi)) back) back → Moved g CarriageReturn p l r
  unfolding coded ends_page
  returned back r e h = λ c x y. rw (h, e, x, y) (go c (feeds_on_return c))
    where
      go : (c : Core) (t : Bool)
          → with_at (cond t (at_y (into_height g (c.at.y + c.layout.vmi)) (at_x (into_width g c.layout.left) c.at)) (at_x (into_width g c.layout.left) c.at)) c
          ≡ cond t (line_feed g (carriage_return g c)) (carriage_return g c)
      go c true = refl
      go c false = refl

  -- the cursor that LF and FF set out from
  abbrev from_feed : Bool → Spot
  from_feed t = cond t (at_x (into_width g l.left) p) p

  -- LF, behind CR or not
  pub fed : (first r : Spot) → first ≡ from_feed (eqb l.termination 2 || eqb l.termination 3) → r ≡ at_y (into_height g (first.y + l.vmi)) first → Moved g LineFeed p l r
  unfolding coded ends_page
  fed first r e h = λ c x y. rw (h, e, x, y) (go c (returns_on_feed c))
    where
      go : (c : Core) (t : Bool)
          → with_at (at_y (into_height g ((cond t (at_x (into_width g c.layout.left) c.at) c.at).y + c.layout.vmi)) (cond t (at_x (into_width g c.layout.left) c.at) c.at)) c
          ≡ cond t (line_feed g (carriage_return g c)) (line_feed g c)
      go c true = refl
      go c false = refl

  -- FF, behind CR or not
  pub paged : (first : Spot) (n y : ℕ) → first ≡ from_feed (eqb l.termination 2 || eqb l.termination 3) → n ≡ first_line_at l → y ≡ into_height g n → Moved g FormFeed p l (spot first.x y)
  unfolding coded ends_page
  paged first n y e i h = λ c x z. rw (h, i, e, x, z) (go c (returns_on_feed c))
    where
      go : (c : Core) (t : Bool)
          → with_used false (with_at (spot (cond t (at_x (into_width g c.layout.left) c.at) c.at).x (into_height g (first_line_at c.layout))) c)
          ≡ with_used false (first_line g (cond t (carriage_return g c) c))
      go c true = refl
      go c false = refl

  -- BS
  pub backed : (n x : ℕ) → n ≡ cond (ltb l.left p.x) (max (p.x - l.hmi) l.left) (cond (eqb p.x l.left) p.x (p.x - l.hmi)) → x ≡ into_width g n → Moved g Backspace p l (spot x p.y)
  unfolding coded ends_page
  backed n x e h = λ c y z. rw (h, e, y, z)

  -- HT where HMI is 0
  pub tab_none : l.hmi ≡ 0 → Moved g Tab p l p
  unfolding coded ends_page
  tab_none e = λ c x y.
      let f : c.layout.hmi ≡ 0 = rw y at e in
      rw (eq-eqb c.layout.hmi 0 f, x)

  -- HT elsewhere
  pub tab_moved : (n : ℕ) (r : Spot) → (l.hmi ≡ 0 → ⊥) → n ≡ cond (ltb p.x l.left) l.left (l.left + ((p.x - l.left) / (8 * l.hmi) + 1) * (8 * l.hmi)) → r ≡ forward_spot g n p l → Moved g Tab p l r
  unfolding coded ends_page
  tab_moved n r e f h = λ c x y.
      let d : c.layout.hmi ≡ 0 → ⊥ = λ z. e (rw y z) in
      rw (ne_eqb c.layout.hmi 0 d, h, f, x, y)

-- the core afresh, with the cursor and the layout given, tells the cursor
pub one_move : OneMove
one_move g k p l r r' h h' = let c = with_at p (with_layout l (fresh_core g)) in ap (λ (d : Core). d.at) (h c refl refl ∙ sym (h' c refl refl))
