-- Rows with the same ink paint the same: without the zeros behind, or blank. Assumes nothing.
use mathlib.Core.Path.{◌≡◌, refl, sym, ap, ap₂, ◌∙◌}
use mathlib.Core.List.{List, [], ◌∷◌, ◌++◌}
use mathlib.Core.Logic.{⊎_elim}
use Prim.Native.Nat.{ℕ, zero, suc, ◌+◌, ◌-◌, ◌*◌, ◌/◌, ◌%◌, ◌≤◌, ◌<◌, max}
use native.Mathlib.Omega.{arith}
use lib.ListN.{length, get_or, take, drop, length-take, get_or-eq_default, take-append-drop}
use lib.Seq.{get_or-take, get_or-drop}
use Rattle.common.specs.Bits.{bit, dot}
use Rattle.common.proofs.Bits.{byte_of_cong}
use Rattle.common.proofs.Choices.{le_or_lt}
use Rattle.rules.specs.Dots.{ink, inked_byte, inked_line, inked_lines}
use Rattle.dot_ink.specs.Ink.{Used}
use Rattle.theorems.proofs.Inks.{bit_zero, ink_at, no_ink}
use Rattle.dot_lay.proofs.Lines.{line_blank, take_small}

-- a page row
line_cong : (r q : List ℕ) (d e from j : ℕ) (p : List ℕ) → ((x : ℕ) → x < 8 * (j + length p) → ink r d from x ≡ ink q e from x) → inked_line r d from j p ≡ inked_line q e from j p
unfolding inked_line inked_byte
line_cong r q d e from j [] h = refl
line_cong r q d e from j (b ∷ p) h =
    ap₂ ◌∷◌ (byte_of_cong (λ i. max (bit b i) (ink r d from (8 * j + i))) (λ i. max (bit b i) (ink q e from (8 * j + i))) (λ i l. ap (max (bit b i)) (h (8 * j + i) (omega arith))))
    (line_cong r q d e from (suc j) p (λ x l. h x (omega arith)))

-- page rows of w bytes
pub lines_cong : (w : ℕ) (r q : List ℕ) (d e from n : ℕ) (page : List ℕ) → ((x : ℕ) → x < 8 * w → ink r d from x ≡ ink q e from x) → inked_lines w r d from n page ≡ inked_lines w q e from n page
unfolding inked_lines
lines_cong w r q d e from zero page h = refl
lines_cong w r q d e from (suc n) page h =
    ap₂ ◌++◌ (line_cong r q d e from 0 (take w page) (λ x l. h x (omega (arith, length-take w page)))) (lines_cong w r q d e from n (drop w page) h)

-- with no ink the page stays
lines_stay : (w : ℕ) (row : List ℕ) (dots from n : ℕ) (page : List ℕ) → ((i : ℕ) → get_or page i 0 < 256) → ((x : ℕ) → ink row dots from x ≡ 0) → inked_lines w row dots from n page ≡ page
unfolding inked_lines
lines_stay w row dots from zero page s h = refl
lines_stay w row dots from (suc n) page s h =
    ap₂ ◌++◌ (line_blank row dots from 0 (take w page) (take_small w page s) (λ x l. h x))
    (lines_stay w row dots from n (drop w page) (λ i. rw (get_or-drop w page i 0) (s (w + i))) h)
    ∙ take-append-drop w page

-- the ink of a row, dot by dot
pub ink_by : (r q : List ℕ) (d e from : ℕ) (x : ℕ) → ((k : ℕ) → x ≡ from + k → dot r (k / d) ≡ dot q (k / e)) → ink r d from x ≡ ink q e from x
ink_by r q d e from x h =
    ⊎_elim
    (λ (l : from ≤ x). let k : x ≡ from + (x - from) = omega arith in ink_at r d from x (x - from) k ∙ h (x - from) k ∙ sym (ink_at q e from x (x - from) k))
    (λ (l : x < from). no_ink r d from x l ∙ sym (no_ink q e from x l))
    (le_or_lt from x)

-- behind its used bytes a row has no dots
pub past_used : (row : List ℕ) (e d : ℕ) → Used row e → e ≤ d / 8 → dot row d ≡ 0
unfolding dot
past_used row e d u h = rw (u.rest (d / 8) h) (bit_zero (d % 8))

-- a blank row: the page stays
pub lines_unmarked : (w : ℕ) (row : List ℕ) (dots from e : ℕ) (page : List ℕ) → Used row e → e ≡ 0 → ((i : ℕ) → get_or page i 0 < 256) → page ≡ inked_lines w row dots from dots page
lines_unmarked w row dots from e page u z s =
    sym (lines_stay w row dots from dots page s
    (λ x. ⊎_elim
    (λ (l : from ≤ x). ink_at row dots from x (x - from) (omega arith) ∙ past_used row e _ u (omega arith))
    (λ (l : x < from). no_ink row dots from x l)
    (le_or_lt from x)))

-- a row without the zeros behind
pub lines_used : (w : ℕ) (row : List ℕ) (dots from e : ℕ) (page after : List ℕ) → Used row e → after ≡ inked_lines w (take e row) dots from dots page → after ≡ inked_lines w row dots from dots page
unfolding dot
lines_used w row dots from e page after u g =
    g ∙ lines_cong w (take e row) row dots dots from dots page (λ x l. ink_by (take e row) row dots dots from x (λ k q. rw (used_at (k / dots / 8))))
  where
    used_at : (i : ℕ) → get_or (take e row) i 0 ≡ get_or row i 0
    used_at i =
        ⊎_elim
        (λ (l : e ≤ i). get_or-eq_default (take e row) 0 (omega (arith, length-take e row)) ∙ sym (u.rest i l))
        (λ (l : i < e). get_or-take e row i 0 l) (le_or_lt e i)
