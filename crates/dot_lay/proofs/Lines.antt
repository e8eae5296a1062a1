-- A painted page row, byte by byte. Assumes nothing.
use mathlib.Core.Path.{◌≡◌, refl, sym, ap, ap₂, ◌∙◌}
use mathlib.Core.List.{List, [], ◌∷◌, ◌++◌, append_assoc, append-nil}
use mathlib.Core.Logic.{⊎_elim}
use Prim.Native.Nat.{ℕ, suc, ◌+◌, ◌-◌, ◌*◌, ◌/◌, ◌≤◌, ◌<◌, max}
use native.Mathlib.Omega.{arith}
use native.Mathlib.Numerals.{add-one}
use lib.Bits.{bit_or, or_lt}
use lib.ListN.{length, get_or, take, drop, set, length-take, length-drop, drop_of_length-le, get_or-eq_default, take-append-drop}
use lib.Seq.{take_all, take-suc-set, length-take-le, get_or-take}
use Rattle.common.specs.Bits.{bit, byte_of}
use Rattle.common.proofs.Bits.{bit_or_lem, byte_of_cong, byte_of-bit, byte_of_lt, bit-byte_of}
use Rattle.common.proofs.Choices.{le_or_lt}
use Rattle.common.proofs.Parts.{put_back}
use Rattle.rules.specs.Dots.{ink, inked_byte, inked_line}
use Rattle.theorems.proofs.Inks.{ink_lt, no_ink}
use Rattle.dot_lay.specs.Laid.{ink_byte}

-- a byte with the byte of its ink or-ed in is the inked byte
pub or_ink : (row : List ℕ) (dots from j b k : ℕ) → b < 256 → k ≡ ink_byte row dots from j → bit_or b k ≡ inked_byte row dots from j b
unfolding ink_byte inked_byte
or_ink row dots from j b k h e =
    let f : ℕ → ℕ = λ i. ink row dots from (8 * j + i) in
    let s : (i : ℕ) → f i < 2 = λ i. ink_lt row dots from (8 * j + i) in
    rw e
    (sym (byte_of-bit (bit_or b (byte_of f)) (or_lt 8 b (byte_of f) h (byte_of_lt f s)))
    ∙ byte_of_cong (bit (bit_or b (byte_of f))) (λ i. max (bit b i) (f i)) (λ i l. rw (bit_or_lem, bit-byte_of f s i l)))

-- a byte stored behind j bytes that are ready
pub stored : (l : List ℕ) (j v : ℕ) (q : List ℕ) → j < length l → take (j + 1) (set l j v) ++ q ≡ take j l ++ (v ∷ q)
stored l j v q h = rw (add-one, take-suc-set l j v h, append_assoc)

-- a page row in two parts
line_append : (row : List ℕ) (dots from j : ℕ) (p q : List ℕ) → inked_line row dots from j (p ++ q) ≡ inked_line row dots from j p ++ inked_line row dots from (j + length p) q
unfolding inked_line
line_append row dots from j [] q = let e : j + 0 ≡ j = omega arith in rw e
line_append row dots from j (b ∷ p) q =
    let e : j + suc (length p) ≡ suc j + length p = omega arith in
    rw e (ap (λ l. inked_byte row dots from j b ∷ l) (line_append row dots from (suc j) p q))

-- where there is no ink a byte stays
byte_blank : (row : List ℕ) (dots from j b : ℕ) → b < 256 → ((i : ℕ) → i < 8 → ink row dots from (8 * j + i) ≡ 0) → inked_byte row dots from j b ≡ b
unfolding inked_byte
byte_blank row dots from j b s h =
    byte_of_cong (λ i. max (bit b i) (ink row dots from (8 * j + i))) (bit b) (λ i l. rw (h i l) (omega arith)) ∙ byte_of-bit b s

-- and a page row too
pub line_blank : (row : List ℕ) (dots from j : ℕ) (p : List ℕ) → ((i : ℕ) → get_or p i 0 < 256) → ((x : ℕ) → x < 8 * (j + length p) → ink row dots from x ≡ 0)
    → inked_line row dots from j p ≡ p
unfolding inked_line
line_blank row dots from j [] s h = refl
line_blank row dots from j (b ∷ p) s h =
    ap₂ ◌∷◌ (byte_blank row dots from j b (s 0) (λ i l. h (8 * j + i) (omega arith)))
    (line_blank row dots from (suc j) p (λ i. s (suc i)) (λ x l. h x (omega arith)))

-- bytes, as far as they are taken
pub take_small : (a : ℕ) (p : List ℕ) → ((i : ℕ) → get_or p i 0 < 256) → (i : ℕ) → get_or (take a p) i 0 < 256
take_small a p s i =
    ⊎_elim
    (λ (k : a ≤ i). rw (get_or-eq_default (take a p) 0 {n = i} (omega (arith, length-take a p))) (omega arith))
    (λ (k : i < a). rw (get_or-take a p i 0 k) (s i)) (le_or_lt a i)

-- the first bytes of a page row stay, and those from the row's first on are painted and have come back
pub line_from : (row : List ℕ) (dots from a : ℕ) (part after : List ℕ) → a ≡ from / 8 → a < length part → ((i : ℕ) → get_or part i 0 < 256)
    → after ≡ inked_line row dots from a (take (length part - a) (drop a part)) → put_back part a (length part - a) after ≡ inked_line row dots from 0 part
line_from row dots from a part after e h s g =
    let l : length (drop a part) ≤ length part - a = simp length-drop (omega arith) in
    let t : length (take a part) ≡ a = length-take-le a part (omega arith) in
    let z : 0 + a ≡ a = omega arith in
    let b : inked_line row dots from 0 (take a part) ≡ take a part =
    line_blank row dots from 0 (take a part) (take_small a part s) (λ x k. no_ink row dots from x (omega (arith, t))) in
    rw (drop_of_length-le (drop a part) l, append-nil, g, take_all (length part - a) (drop a part) l)
    (sym (ap (inked_line row dots from 0) (sym (take-append-drop a part)) ∙ line_append row dots from 0 (take a part) (drop a part) ∙ rw (t, z, b)))
