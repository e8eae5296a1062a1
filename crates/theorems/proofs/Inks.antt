-- The ink of a row from dot `from` on, a painted page row, byte by byte, and the length of a painted page. Assumes nothing.
use mathlib.Core.Path.{◌≡◌, refl, sym, ap, ap₂, ◌∙◌}
use mathlib.Core.List.{List, [], ◌∷◌}
use Prim.Native.Nat.{ℕ, zero, suc, ◌+◌, ◌-◌, ◌*◌, ◌/◌, ◌<◌}
use native.Mathlib.Nat.{le_of_suc-le-suc, not-suc-le-zero}
use native.Mathlib.Omega.{arith}
use lib.Dec.{leb}
use lib.ListN.{length, get_or, take, drop, length-append, take-append-drop}
use lib.Pow.{shr_le}
use borrow.Author.Tests.{le-leb, lt-leb}
use Rattle.common.specs.Bits.{bit, dot}
use Rattle.common.proofs.Bits.{dot_lt}
use Rattle.common.proofs.Choices.{choice}
use Rattle.rules.specs.Dots.{ink, inked_byte, inked_line, inked_lines, painted}

-- zero has no bit
pub bit_zero : (i : ℕ) → bit 0 i ≡ 0
unfolding bit
bit_zero i = omega (arith, shr_le 0 (7 - i))

-- from dot `from` on the ink is the row's dots
pub ink_at : (row : List ℕ) (dots from x d : ℕ) → x ≡ from + d → ink row dots from x ≡ dot row (d / dots)
unfolding ink
ink_at row dots from x d h =
    let e : x - from ≡ d = omega arith in
    rw (le-leb from x (omega arith), e)

-- before it there is none
pub no_ink : (row : List ℕ) (dots from x : ℕ) → x < from → ink row dots from x ≡ 0
unfolding ink
no_ink row dots from x h = rw (lt-leb from x h)

-- ink is a dot
pub ink_lt : (row : List ℕ) (dots from x : ℕ) → ink row dots from x < 2
unfolding ink
ink_lt row dots from x = choice (λ n. n < 2) (leb from x) (dot_lt row ((x - from) / dots)) (omega arith)

-- painting keeps the length of a page row
pub line_length : (row : List ℕ) (dots from j : ℕ) (p : List ℕ) → length (inked_line row dots from j p) ≡ length p
unfolding inked_line
line_length row dots from j [] = refl
line_length row dots from j (b ∷ p) = ap suc (line_length row dots from (suc j) p)

-- byte m of a painted page row
pub line_at : (row : List ℕ) (dots from j : ℕ) (p : List ℕ) (m : ℕ) → m < length p → get_or (inked_line row dots from j p) m 0 ≡ inked_byte row dots from (j + m) (get_or p m 0)
unfolding inked_line
line_at row dots from j [] m h = absurd (not-suc-le-zero h)
line_at row dots from j (b ∷ p) zero h = let e : j + 0 ≡ j = omega arith in rw e
line_at row dots from j (b ∷ p) (suc m) h = let e : j + suc m ≡ suc j + m = omega arith in rw e (line_at row dots from (suc j) p m (le_of_suc-le-suc h))

-- a list in two parts
parts_length : (n : ℕ) (p : List ℕ) → length (take n p) + length (drop n p) ≡ length p
parts_length n p = sym (length-append (take n p) (drop n p)) ∙ ap length (take-append-drop n p)

-- page rows painted on
lines_length : (w : ℕ) (row : List ℕ) (dots from n : ℕ) (p : List ℕ) → length (inked_lines w row dots from n p) ≡ length p
unfolding inked_lines
lines_length w row dots from zero p = refl
lines_length w row dots from (suc n) p =
    length-append (inked_line row dots from 0 (take w p)) (inked_lines w row dots from n (drop w p))
    ∙ ap₂ ◌+◌ (line_length row dots from 0 (take w p)) (lines_length w row dots from n (drop w p))
    ∙ parts_length w p

-- a page painted on
pub painted_length : (w : ℕ) (row : List ℕ) (dots from line : ℕ) (p : List ℕ) → length (painted w row dots from line p) ≡ length p
unfolding painted
painted_length w row dots from line p =
    length-append (take (line * w) p) (inked_lines w row dots from dots (drop (line * w) p))
    ∙ ap (λ n. length (take (line * w) p) + n) (lines_length w row dots from dots (drop (line * w) p))
    ∙ parts_length (line * w) p
