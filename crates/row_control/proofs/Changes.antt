-- What the bytes of a payload change in a row, in one go. Assumes nothing.
use mathlib.Core.Path.{◌≡◌, refl, ap, ◌∙◌}
use mathlib.Core.Bool.{Bool, true, false, cond}
use mathlib.Core.List.{List, [], ◌∷◌}
use Prim.Native.Nat.{ℕ, zero, suc, ◌+◌, ◌*◌, ◌≤◌, ◌<◌}
use native.Mathlib.Omega.{arith}
use lib.Dec.{eqb}
use lib.ListN.{length, get_or, take, drop, set, replicate}
use lib.Seq.{sets, set_out}
use Rattle.common.proofs.Choices.{choice}
use Rattle.common.proofs.Places.{cut}
use Rattle.common.proofs.Stores.{sets_out}
use Rattle.rules.specs.declared.Mode.{Mode}
use Rattle.rules.specs.declared.Mode.TheVariants.{Ready, Offset, Copy, Repeat}
use Rattle.rules.specs.Rows.{after, placed, changed}
use Rattle.row_control.specs.Controls.{fulls, repeated, place}
use Rattle.row_control.proofs.Controls.{Rising}

-- from the row's end on a byte changes nothing
placed_past : (m : Mode) (b : ℕ) (row : List ℕ) → length row ≤ place m → placed m b row ≡ row
unfolding placed place
placed_past (Ready at) b row h = refl
placed_past (Offset n at) b row h = refl
placed_past (Copy n at) b row h = set_out row at b h
placed_past (Repeat n at) b row h = sets_out row at (replicate n b) h

module _ (by : ℕ → ℕ → Mode) where
  -- a control byte is next, and does what it means
  pub first : (s : List ℕ) (i at : ℕ) (row : List ℕ) (m : Mode) → i < length s → by (get_or s i 0) at ≡ m
      → changed by (Ready at) row (drop i s) ≡ changed by m row (drop (i + 1) s)
  unfolding changed after placed
  first s i at row m h e = rw (cut s i h) (ap (λ k. changed by k row (drop (i + 1) s)) e)

  -- n + 1 turns of Copy in one go, or as many as there are bytes
  pub copies : (n at : ℕ) (row s : List ℕ) → changed by (Copy n at) row s ≡ changed by (Ready (at + suc n)) (sets row at (take (suc n) s)) (drop (suc n) s)
  unfolding changed after placed
  copies zero at row [] = refl
  copies (suc n) at row [] = refl
  copies zero at row (b ∷ s) = refl
  copies (suc n) at row (b ∷ s) =
      let e : (at + 1) + suc n ≡ at + suc (suc n) = omega arith in
      let f : at + 1 ≡ suc at = omega arith in
      copies n (at + 1) (set row at b) s ∙ rw (e, f)

  -- a byte repeated
  pub repeats : (n at : ℕ) (row s : List ℕ) → changed by (Repeat n at) row s ≡ changed by (Ready (at + n)) (sets row at (repeated n s)) (drop 1 s)
  unfolding changed after placed repeated
  repeats n at row [] = refl
  repeats n at row (b ∷ s) = refl

  -- the bytes of an offset in one go
  pub offsets : (n at : ℕ) (row s : List ℕ) → changed by (Offset n at) row s ≡ changed by (Copy n (at + 255 * fulls s + get_or s (fulls s) 0)) row (drop (suc (fulls s)) s)
  unfolding changed after placed fulls
  offsets n at row [] = refl
  offsets n at row (b ∷ s) = go (eqb b 255) (offsets n (at + 255) row s)
    where
      go : (t : Bool) → changed by (Offset n (at + 255)) row s ≡ changed by (Copy n ((at + 255) + 255 * fulls s + get_or s (fulls s) 0)) row (drop (suc (fulls s)) s)
          → changed by (cond t (Offset n (at + 255)) (Copy n (at + b))) row s
          ≡ changed by (Copy n (at + 255 * cond t (suc (fulls s)) 0 + get_or (b ∷ s) (cond t (suc (fulls s)) 0) 0)) row (drop (suc (cond t (suc (fulls s)) 0)) (b ∷ s))
      go true h = let e : (at + 255) + 255 * fulls s + get_or s (fulls s) 0 ≡ at + 255 * suc (fulls s) + get_or s (fulls s) 0 = omega arith in h ∙ rw e
      go false h = let e : at + b ≡ at + 255 * 0 + b = omega arith in rw e

  module _ (up : Rising by) where
    -- no byte leads back in the row
    after_up : (m : Mode) (b : ℕ) → place m ≤ place (after by m b)
    unfolding after place
    after_up (Ready at) b = up b at
    after_up (Offset n at) b = choice (λ (m : Mode). at ≤ place m) (eqb b 255) {a = Offset n (at + 255)} {b = Copy n (at + b)} (omega arith) (omega arith)
    after_up (Copy zero at) b = omega arith
    after_up (Copy (suc n) at) b = omega arith
    after_up (Repeat n at) b = omega arith

    -- from the row's end on nothing is changed
    pub past : (m : Mode) (row s : List ℕ) → length row ≤ place m → changed by m row s ≡ row
    unfolding changed
    past m row [] h = refl
    past m row (b ∷ s) h =
        rw (placed_past m b row h) (past (after by m b) row s (omega (arith, after_up m b)))
