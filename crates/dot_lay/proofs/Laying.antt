-- Ink or-ed into a page row. Assumes nothing.
use mathlib.Core.Path.{◌≡◌, refl, sym, ap, ap₂, ◌∙◌}
use mathlib.Core.List.{List, [], ◌∷◌, ◌++◌, append-nil}
use mathlib.Core.Logic.{⊎_elim}
use Prim.Native.Nat.{ℕ, zero, suc, ◌+◌, ◌-◌, ◌/◌, ◌%◌, ◌≤◌, ◌<◌, min}
use native.Mathlib.Omega.{arith}
use lib.Bits.{bit_or, or_zero_r}
use lib.ListN.{length, get_or, take, drop, set, length-set, length-drop, drop_of_length-le, take-append-drop}
use lib.Seq.{take_all, set_split, drop-set-lt, get_or-drop}
use Rattle.common.proofs.Choices.{le_or_lt}
use Rattle.common.proofs.Places.{cut}
use Rattle.common.proofs.Parts.{put_back}
use Rattle.rules.specs.Dots.{inked_line}
use Rattle.dot_lay.specs.Laid.{ink_byte, ored, Shifted}
use Rattle.theorems.proofs.Inks.{no_ink}
use Rattle.dot_lay.proofs.Lines.{or_ink, stored, line_blank, take_small, line_from}
use Rattle.dot_lay.proofs.Windows.{plain_ink, shifted_line}

-- nothing or-ed
ored_none : (p : List ℕ) → ored p [] ≡ p
unfolding ored
ored_none [] = refl
ored_none (b ∷ p) = refl

-- the first j bytes are or-ed
pub record Laying (before list part : List ℕ) (j : ℕ) : Type 0 where
  pub same : length part ≡ length before
  pub is : take j part ++ ored (drop j part) (drop j list) ≡ ored before list

-- one byte more is
pub laying_again : (before list part : List ℕ) (j n : ℕ) → Laying before list part j → n ≡ min (length before) (length list) → j < n
    → Laying before list (set part j (bit_or (get_or part j 0) (get_or list j 0))) (j + 1)
unfolding ored
laying_again before list part j n v e h =
    let p : j < length part = omega (arith, v.same) in
    let l : j < length list = omega arith in
    record {
      same = length-set part j _ ∙ v.same;
      is =
          rw (drop-set-lt (j + 1) part j _ (omega arith), stored part j _ _ p)
          (ap (λ q. take j part ++ q) (sym (rw (cut part j p, cut list j l))) ∙ v.is);
    }

-- all are
pub laying_ends : (before list part : List ℕ) (j n : ℕ) → Laying before list part j → n ≡ min (length before) (length list) → n ≤ j → part ≡ ored before list
unfolding ored
laying_ends before list part j n v e h = sym (sym v.is ∙ ⊎_elim first second (le_or_lt (length part) j))
  where
    first : length part ≤ j → take j part ++ ored (drop j part) (drop j list) ≡ part
    first k = rw (drop_of_length-le part k, take_all j part k) (append-nil part)

    second : j < length part → take j part ++ ored (drop j part) (drop j list) ≡ part
    second k =
        let l : length list ≤ j = omega (arith, v.same) in
        rw (drop_of_length-le list l, ored_none, take-append-drop)

-- ink or-ed into a page row is the page row painted
pub laid_from : (row : List ℕ) (dots from j : ℕ) (p list : List ℕ) → ((i : ℕ) → get_or p i 0 < 256)
    → ((i : ℕ) → i < length p → get_or list i 0 ≡ ink_byte row dots from (j + i)) → ored p list ≡ inked_line row dots from j p
unfolding ored inked_line
laid_from row dots from j [] list s h = refl
laid_from row dots from j (b ∷ p) [] s h =
    let e : j + 0 ≡ j = omega arith in
    ap₂ ◌∷◌ (sym (or_zero_r b) ∙ or_ink row dots from j b 0 (s 0) (rw e at (h 0 (omega arith))))
    (sym (ored_none p) ∙ laid_from row dots from (suc j) p [] (λ i. s (suc i)) (λ i l. let f : j + suc i ≡ suc j + i = omega arith in rw f at (h (suc i) (omega arith))))
laid_from row dots from j (b ∷ p) (k ∷ list) s h =
    let e : j + 0 ≡ j = omega arith in
    ap₂ ◌∷◌ (or_ink row dots from j b k (s 0) (rw e at (h 0 (omega arith))))
    (laid_from row dots from (suc j) p list (λ i. s (suc i)) (λ i l. let f : j + suc i ≡ suc j + i = omega arith in rw f at (h (suc i) (omega arith))))

-- ---- a source of one dot to a bit

module _ (src : List ℕ) (from : ℕ) (part : List ℕ) (small : (i : ℕ) → get_or src i 0 < 256) (bytes : (i : ℕ) → get_or part i 0 < 256) where
  -- beyond the page row: it stays
  pub at_none : length part ≤ from / 8 → part ≡ inked_line src 1 from 0 part
  at_none h = sym (line_blank src 1 from 0 part bytes (λ x l. no_ink src 1 from x (omega arith)))

  -- bytes from a place on
  behind_small : (i : ℕ) → get_or (take (length part - from / 8) (drop (from / 8) part)) i 0 < 256
  behind_small = take_small (length part - from / 8) (drop (from / 8) part) (λ i. rw (get_or-drop (from / 8) part i 0) (bytes (from / 8 + i)))

  -- or-ed in as it is
  pub at_plain : (after : List ℕ) → from % 8 ≡ 0 → from / 8 < length part → after ≡ ored (take (length part - from / 8) (drop (from / 8) part)) src
      → put_back part (from / 8) (length part - from / 8) after ≡ inked_line src 1 from 0 part
  at_plain after z h e =
      line_from src 1 from (from / 8) part after refl h bytes
      (e ∙ laid_from src 1 from (from / 8) (take (length part - from / 8) (drop (from / 8) part)) src behind_small (λ i l. plain_ink src small from z i))

  -- or-ed in shifted
  pub at_shifted : (after : List ℕ) → from / 8 < length part → Shifted (take (length part - from / 8) (drop (from / 8) part)) src (from % 8) after
      → put_back part (from / 8) (length part - from / 8) after ≡ inked_line src 1 from 0 part
  at_shifted after h v =
      line_from src 1 from (from / 8) part after refl h bytes
      (shifted_line src small from (take (length part - from / 8) (drop (from / 8) part)) after (from % 8) refl behind_small v)

-- ---- a source of one byte

-- a byte or-ed into the first of a part
ored_one : (b k : ℕ) (p : List ℕ) → ored (b ∷ p) (k ∷ []) ≡ bit_or b k ∷ p
unfolding ored
ored_one b k p = ap (λ q. bit_or b k ∷ q) (ored_none p)

-- a list of one byte
one_small : (k : ℕ) → k < 256 → (i : ℕ) → get_or (k ∷ []) i 0 < 256
one_small k h zero = h
one_small k h (suc i) = omega arith

-- a page row, lent from byte j on to be painted with one byte from there on, has that byte or-ed in
pub laid_one : (part after : List ℕ) (j k : ℕ) → j < length part → k < 256 → ((i : ℕ) → get_or part i 0 < 256)
    → after ≡ inked_line (k ∷ []) 1 0 0 (take (length part - j) (drop j part)) → put_back part j (length part - j) after ≡ set part j (bit_or (get_or part j 0) k)
laid_one part after j k h l s e =
    let d : length (drop j part) ≤ length part - j = simp length-drop (omega arith) in
    let o : ored (drop j part) (k ∷ []) ≡ inked_line (k ∷ []) 1 0 0 (drop j part) =
    laid_from (k ∷ []) 1 0 0 (drop j part) (k ∷ []) (λ i. rw (get_or-drop j part i 0) (s (j + i))) (λ i q. plain_ink (k ∷ []) (one_small k l) 0 refl i) in
    let g : after ≡ bit_or (get_or part j 0) k ∷ drop (j + 1) part =
    e ∙ ap (inked_line (k ∷ []) 1 0 0) (take_all (length part - j) (drop j part) d) ∙ sym o ∙ ap (λ p. ored p (k ∷ [])) (cut part j h) ∙ ored_one (get_or part j 0) k (drop (j + 1) part) in
    let n : j + 1 ≡ suc j = omega arith in
    rw (drop_of_length-le (drop j part) d, append-nil, g, n) (sym (set_split part j (bit_or (get_or part j 0) k) h))
