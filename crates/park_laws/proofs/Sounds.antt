-- What soundness says of each member. Assumes nothing.
use mathlib.Core.Path.{◌≡◌, refl}
use Prim.Native.Nat.{ℕ, zero, suc, ◌≤◌}
use native.Mathlib.Omega.{arith}
use mathlib.Core.List.{List, [], ◌∷◌, ◌++◌}
use mathlib.Core.Bool.{Bool, true, false, ◌&&◌}
use lib.Dec.{eqb, leb}
use lib.ListN.{length, take, drop, replicate}
use borrow.Author.Tests.{leb-true, eqb-true}
use Rattle.common.specs.Choice.{flagged}
use Rattle.common.proofs.Choices.{and_true, one_of-bounds}
use Rattle.rules.specs.declared.Spot.{Spot}
use Rattle.rules.specs.declared.Measure.{Measure}
use Rattle.rules.specs.Measure.{allowed, LW, LH, stack_holds, origin, spot}
use Rattle.rules.specs.Sound.{in_page, all_in_page, all_free, resolutions, all_zero, sound}
use Rattle.rules.specs.Forms.{Parked, measured}
use Rattle.rules.specs.Park.{parked_sound, row_bytes, depth_of}
use Rattle.theorems.proofs.Measures.{allowed_gives}
use Rattle.theorems.proofs.Sound.{state_facts}
use Rattle.park_laws.specs.Facts.{Each, none, each, TenDigits, SmallSpot, IsByte}
use Rattle.park_laws.proofs.Laws.{Small}

pub record Sounds (j : Parked) : Type 0 where
  pub small : Small j
  pub W : j.W ≤ 4800
  pub H : j.H ≤ 6800
  pub depth : depth_of j ≤ stack_holds
  pub inside : all_in_page (measured j) (take (depth_of j) j.state.core.stack) ≡ true
  pub free : all_free (drop (depth_of j) j.state.core.stack) ≡ true
  pub zeros : all_zero (drop (row_bytes j) j.state.core.seed) ≡ true

flag_small : (t : Bool) → TenDigits (flagged t)
flag_small true = omega arith
flag_small false = omega arith

pub sounds : (j : Parked) → parked_sound j ≡ true → Sounds j
unfolding parked_sound
sounds j e =
    let a = and_true (allowed j.W j.H) (sound (measured j) j.state) e in
    let g = allowed_gives j.W j.H a.0 in
    let t = state_facts (measured j) j.state a.1 in
    let c = t.core in
    let l = c.layout in
    let res = one_of-bounds 75 300 resolutions j.state.core.raster.resolution refl c.resolution in
    let wl = g.widest in let hl = g.highest in let w = g.width in let h = g.height in
    record {
      small = record {
        W = omega arith;
        H = omega arith;
        x = omega (arith, c.x);
        y = omega (arith, c.y);
        L = omega (arith, l.left, l.right);
        R = omega (arith, l.right);
        T = omega (arith, l.top);
        hmi = omega (arith, l.hmi);
        vmi = omega (arith, l.vmi);
        termination = omega (arith, l.termination);
        resolution = omega (arith, res.1);
        method = omega (arith, t.method);
        started = flag_small j.state.core.raster.started;
        margin = omega (arith, c.margin);
        used = flag_small j.state.core.used;
        depth = omega (arith, c.depth);
      };
      W = omega arith;
      H = omega arith;
      depth = c.depth;
      inside = c.stacked;
      free = c.free;
      zeros = c.seed;
    }

-- positions in the page are small
pub in_page_lem : (g : Measure) (l : List Spot) → TenDigits (LW g) → TenDigits (LH g) → all_in_page g l ≡ true → Each SmallSpot l
unfolding all_in_page
in_page_lem g [] w h e = none
in_page_lem g (p ∷ l) w h e =
    let a = and_true (in_page g p) (all_in_page g l) e in
    let b = and_true (leb p.x (LW g)) (leb p.y (LH g)) a.0 in
    let x = leb-true p.x (LW g) b.0 in
    let y = leb-true p.y (LH g) b.1 in
    each {a = p} (omega arith, omega arith) (in_page_lem g l w h a.1)

pub free_is : (l : List Spot) → all_free l ≡ true → l ≡ replicate (length l) origin
unfolding all_free
free_is [] e = refl
free_is (p ∷ l) e =
    let a = and_true (eqb p.x 0 && eqb p.y 0) (all_free l) e in
    let b = and_true (eqb p.x 0) (eqb p.y 0) a.0 in
    let x = eqb-true p.x 0 b.0 in
    let y = eqb-true p.y 0 b.1 in
    let r = free_is l a.1 in
    (λ i. spot (x i) (y i) ∷ r i)

pub zero_is : (l : List ℕ) → all_zero l ≡ true → l ≡ replicate (length l) 0
unfolding all_zero
zero_is [] e = refl
zero_is (b ∷ l) e = let a = and_true (eqb b 0) (all_zero l) e in let x = eqb-true b 0 a.0 in let r = zero_is l a.1 in (λ i. x i ∷ r i)

-- ---- each of a list
pub each_take : {A : Type 0} {P : A → Type 0} (n : ℕ) {l : List A} → Each P l → Each P (take n l)
each_take zero u = none
each_take (suc n) none = none
each_take (suc n) (each h u) = each h (each_take n u)

pub each_append : {A : Type 0} {P : A → Type 0} {a b : List A} → Each P a → Each P b → Each P (a ++ b)
each_append none v = v
each_append (each h u) v = each h (each_append u v)

pub each_zero : (n : ℕ) → Each IsByte (replicate n 0)
each_zero zero = none
each_zero (suc n) = each {a = 0} (omega arith) (each_zero n)
