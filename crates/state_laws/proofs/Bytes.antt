-- Numbers and lists, written as bytes and read again. Assumes nothing.
use mathlib.Core.Path.{◌≡◌, refl, ◌∙◌}
use mathlib.Core.Bool.{Bool, true, false, not, ◌&&◌}
use mathlib.Core.List.{List, [], ◌∷◌, ◌++◌}
use Prim.Native.Nat.{ℕ, zero, suc, ◌+◌, ◌*◌, ◌/◌, ◌%◌, ◌≤◌, ◌<◌}
use native.Mathlib.Omega.{arith}
use native.Mathlib.Nat.{not-suc-le-zero}
use Rattle.std.proofs.lemmas.Nat.{from_le_bytes-to_le_bytes_2, from_le_bytes-to_le_bytes_4}
use lib.Dec.{eqb, leb}
use lib.ListN.{length, get_or, take, drop, length-append}
use lib.Seq.{get_or-drop}
use borrow.Author.Tests.{leb-true, eqb-true}
use Rattle.common.specs.Choice.{flagged}
use Rattle.common.proofs.Choices.{and_true}
use Rattle.rules.specs.declared.Measure.{Measure}
use Rattle.rules.specs.declared.Spot.{Spot}
use Rattle.rules.specs.Measure.{LW, LH, origin}
use Rattle.rules.specs.Sound.{in_page, all_in_page, all_free}
use Rattle.state_load.specs.Kept.{u32_at, spot_at, spot_bytes, stack_bytes}

-- ---- numbers
-- four bytes of a number below 2^32 are the number
pub four_back : (n : ℕ) → n ≤ 4294967295 → n % 256 + 256 * (n / 256 % 256) + 65536 * (n / 65536 % 256 + 256 * (n / 16777216 % 256)) ≡ n
four_back n h = omega (arith, from_le_bytes-to_le_bytes_4 n (omega arith))

-- two bytes of one below 2^16
pub two_back : (n : ℕ) → n ≤ 65535 → n % 256 + 256 * (n / 256 % 256) ≡ n
two_back n h = omega (arith, from_le_bytes-to_le_bytes_2 n (omega arith))

-- a flag
pub flag_back : (t : Bool) → not (eqb (flagged t) 0) ≡ t
flag_back true = refl
flag_back false = refl

pub flag_small : (t : Bool) → leb (flagged t) 1 ≡ true
flag_small true = refl
flag_small false = refl

-- ---- a part that starts further on
pub u32_drop : (b : List ℕ) (n at : ℕ) → u32_at b (n + at) ≡ u32_at (drop n b) at
u32_drop b n at =
    let e : n + at + 1 ≡ n + (at + 1) = omega arith in
    let f : n + at + 2 ≡ n + (at + 2) = omega arith in
    let g : n + at + 3 ≡ n + (at + 3) = omega arith in
    rw (e, f, g, get_or-drop n b at 0, get_or-drop n b (at + 1) 0, get_or-drop n b (at + 2) 0, get_or-drop n b (at + 3) 0)

pub spot_drop : (b : List ℕ) (n at : ℕ) → spot_at b (n + at) ≡ spot_at (drop n b) at
spot_drop b n at =
    let e : n + at + 4 ≡ n + (at + 4) = omega arith in
    rw (e, u32_drop b n at, u32_drop b n (at + 4))

-- ---- the stack
-- places that four bytes hold
pub record Fit (p : Spot) : Type 0 where
  pub x : p.x ≤ 4294967295
  pub y : p.y ≤ 4294967295

abbrev pub AllFit : List Spot → Type 0
AllFit [] = Unit {0}
AllFit (p ∷ l) = Fit p × AllFit l

module _ (g : Measure) (wide : LW g ≤ 4294967295) (high : LH g ≤ 4294967295) where
  free_fit : (l : List Spot) → all_free l ≡ true → AllFit l
  unfolding all_free
  free_fit [] e = tt
  free_fit (p ∷ l) e =
      let a = and_true (eqb p.x 0 && eqb p.y 0) (all_free l) e in
      let b = and_true (eqb p.x 0) (eqb p.y 0) a.0 in
      let u = eqb-true p.x 0 b.0 in
      let v = eqb-true p.y 0 b.1 in
      (record { x = omega (arith, u); y = omega (arith, v) }, free_fit l a.1)

  -- those of a sound stack are such
  pub stack_fit : (n : ℕ) (l : List Spot) → all_in_page g (take n l) ≡ true → all_free (drop n l) ≡ true → AllFit l
  unfolding all_in_page
  stack_fit zero l e f = free_fit l f
  stack_fit (suc n) [] e f = tt
  stack_fit (suc n) (p ∷ l) e f =
      let a = and_true (in_page g p) (all_in_page g (take n l)) e in
      let b = and_true (leb p.x (LW g)) (leb p.y (LH g)) a.0 in
      let u = leb-true p.x (LW g) b.0 in
      let v = leb-true p.y (LH g) b.1 in
      (record { x = omega (arith, u, wide); y = omega (arith, v, high) }, stack_fit n l a.1 f)

-- eight bytes to a place
pub stack_length : (l : List Spot) → length (stack_bytes l) ≡ 8 * length l
unfolding stack_bytes
stack_length [] = refl
stack_length (p ∷ l) = let h = stack_length l in omega (arith, h, length-append (spot_bytes p) (stack_bytes l))

-- eight bytes are read as their place
pub spot_back : (p : Spot) (q : List ℕ) → Fit p → spot_at (spot_bytes p ++ q) 0 ≡ p
spot_back p q h = rw (four_back p.x h.x, four_back p.y h.y)

pub stack_back : (l : List Spot) (q : List ℕ) (i : ℕ) → AllFit l → i < length l → spot_at (stack_bytes l ++ q) (8 * i) ≡ get_or l i origin
unfolding stack_bytes
stack_back [] q i a h = absurd (not-suc-le-zero h)
stack_back (p ∷ l) q zero a h = spot_back p (stack_bytes l ++ q) a.0
stack_back (p ∷ l) q (suc i) a h =
    let e : 8 * suc i ≡ 8 + 8 * i = omega arith in
    rw e (spot_drop (stack_bytes (p ∷ l) ++ q) 8 (8 * i) ∙ stack_back l q i a.1 (omega arith))
