-- Squares made once, and laid as a row of one dot to a bit. Assumes nothing.
use mathlib.Core.Path.{◌≡◌, sym, ap, ◌∙◌}
use mathlib.Core.List.{List, ◌++◌}
use mathlib.Core.Logic.{⊎_elim}
use Prim.Native.Nat.{ℕ, zero, suc, ◌+◌, ◌-◌, ◌*◌, ◌/◌, ◌%◌, ◌≤◌, ◌<◌, min}
use native.Mathlib.Omega.{arith}
use lib.ListN.{length, take, replicate, length-replicate, length-append, get_or-eq_default}
use lib.Seq.{take_at, length-take-le}
use Rattle.common.specs.Bits.{bit, dot}
use Rattle.common.proofs.Choices.{le_or_lt}
use Rattle.rules.specs.Dots.{inked_lines}
use Rattle.dot_ink.specs.Ink.{Used, Squared}
use Rattle.dot_ink.proofs.Inks.{square_dot}
use Rattle.theorems.proofs.Inks.{bit_zero}
use Rattle.dot_paint.proofs.Alike.{ink_by, past_used, lines_cong}

-- two, three or four dots
by_dots : (P : ℕ → Type 0) → P 2 → P 3 → P 4 → (d : ℕ) → 2 ≤ d → d ≤ 4 → P d
by_dots P a b c zero h l = absurd (omega arith)
by_dots P a b c (suc zero) h l = absurd (omega arith)
by_dots P a b c (suc (suc zero)) h l = a
by_dots P a b c (suc (suc (suc zero))) h l = b
by_dots P a b c (suc (suc (suc (suc zero)))) h l = c
by_dots P a b c (suc (suc (suc (suc (suc n))))) h l = absurd (omega arith)

-- the squares of a page row of at most 600 bytes are at most 600, which two, three and four divide
pub square_room : (d w e n q : ℕ) → 2 ≤ d → d ≤ 4 → w ≤ 600 → q ≡ w / d + min 1 (w % d) → n ≡ min e q → d * n ≤ 600
square_room d w e n q h l k =
    by_dots (λ d. q ≡ w / d + min 1 (w % d) → n ≡ min e q → d * n ≤ 600) (λ v r. omega arith) (λ v r. omega arith) (λ v r. omega arith) d h l

-- behind the squares a page row has no more of the row's dots
past_square : (d w e n q k : ℕ) → 2 ≤ d → d ≤ 4 → q ≡ w / d + min 1 (w % d) → n ≡ min e q → d * n ≤ k / 8 → k < 8 * w → e ≤ k / d / 8
past_square d w e n q k h l =
    by_dots (λ d. q ≡ w / d + min 1 (w % d) → n ≡ min e q → d * n ≤ k / 8 → k < 8 * w → e ≤ k / d / 8) (λ v q r s. omega arith) (λ v q r s. omega arith)
    (λ v q r s. omega arith) d h l

-- the first n of k zeros
pub zeros_length : (n k : ℕ) → n ≤ k → n ≡ length {A = ℕ} (take n (replicate k 0))
zeros_length n k h = sym (length-take-le {A = ℕ} n (replicate k 0) (simp length-replicate h))

module _ (row : List ℕ) (d n m : ℕ) (before list behind : List ℕ) (e : m ≡ length before) (k : Squared row d n before list) where
  -- m bytes are there
  pub squares_inside : m ≤ length (list ++ behind)
  squares_inside = omega (arith, length-append list behind, k.same)

  -- the first m are the squares
  squares_first : take m (list ++ behind) ≡ list
  squares_first = take_at list behind m (k.same ∙ sym e)

  -- which are m
  pub squares_length : m ≡ length (take m (list ++ behind))
  squares_length = rw squares_first (e ∙ sym k.same)

  -- laid, they are the row's ink
  pub lines_squared : (w u from q : ℕ) (page after : List ℕ) → 2 ≤ d → d ≤ 4 → Used row u → q ≡ w / d + min 1 (w % d) → n ≡ min u q → m ≡ d * n
      → after ≡ inked_lines w (take m (list ++ behind)) 1 from d page → after ≡ inked_lines w row d from d page
  unfolding dot
  lines_squared w u from q page after h l v c x r g =
      g ∙ rw squares_first (lines_cong w list row 1 d from d page (λ x y. ink_by list row 1 d from x (λ i z. let o : i / 1 ≡ i = omega arith in rw o (same_dot i (omega arith)))))
    where
      same_dot : (i : ℕ) → i < 8 * w → dot list i ≡ dot row (i / d)
      same_dot i y =
          ⊎_elim
          (λ (a : d * n ≤ i / 8).
          ap (λ b. bit b (i % 8)) (get_or-eq_default list 0 (omega (arith, k.same))) ∙ bit_zero (i % 8) ∙ sym (past_used row u (i / d) v (past_square d w u n q i h l c x a y)))
          (λ (a : i / 8 < d * n).
          let o : 8 * (i / 8) + i % 8 ≡ i = omega arith in
          ap (λ b. bit b (i % 8)) (k.is (i / 8) a) ∙ square_dot row d (i / 8) (i % 8) (omega arith) ∙ ap (λ j. dot row (j / d)) o)
          (le_or_lt (d * n) (i / 8))
