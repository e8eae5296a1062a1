-- A page row painted in place, byte by byte, and dot by dot. Assumes nothing.
use mathlib.Core.Path.{◌≡◌, refl, sym, ap, ◌∙◌}
use mathlib.Core.List.{List, [], ◌∷◌, ◌++◌, append-nil}
use Prim.Native.Nat.{ℕ, ◌+◌, ◌-◌, ◌*◌, ◌≤◌, ◌<◌}
use native.Mathlib.Omega.{arith}
use native.Mathlib.Numerals.{add-one}
use lib.Bits.{bit_or}
use lib.ListN.{length, get_or, take, drop, set, length-set, drop_of_length-le}
use lib.Seq.{take_all, drop-set-lt}
use Rattle.common.proofs.Bits.{byte_of_lt}
use Rattle.common.proofs.Places.{cut}
use Rattle.common.proofs.Parts.{put_back}
use Rattle.rules.specs.Dots.{ink, inked_line}
use Rattle.dot_lay.specs.Laid.{ink_byte}
use Rattle.dot_slowly.specs.declared.Walk.{Walk}
use Rattle.dot_slowly.specs.Walks.{Stands, Eighth}
use Rattle.theorems.proofs.Inks.{ink_lt}
use Rattle.dot_lay.proofs.Lines.{or_ink, stored}
use Rattle.dot_lay.proofs.Laying.{laid_one}
use Rattle.dot_slowly.proofs.Walking.{stands_first, stands_near}

-- the first j bytes of a page row are painted
pub record Inking (row : List ℕ) (dots from : ℕ) (before part : List ℕ) (j : ℕ) : Type 0 where
  pub same : length part ≡ length before
  pub is : take j part ++ inked_line row dots from j (drop j part) ≡ inked_line row dots from 0 before

-- at first none is
pub inking_starts : (row : List ℕ) (dots from : ℕ) (before : List ℕ) → Inking row dots from before before 0
inking_starts row dots from before = record { same = refl; is = refl }

-- one byte more is
pub inking_again : (row : List ℕ) (dots from : ℕ) (before part : List ℕ) (j k : ℕ) → Inking row dots from before part j
    → j < length part → get_or part j 0 < 256 → k ≡ ink_byte row dots from j
    → Inking row dots from before (set part j (bit_or (get_or part j 0) k)) (j + 1)
unfolding inked_line
inking_again row dots from before part j k v h b e =
    record {
      same = length-set part j _ ∙ v.same;
      is =
          rw (drop-set-lt (j + 1) part j _ (omega arith), stored part j _ _ h, or_ink row dots from j (get_or part j 0) k b e)
          (ap (λ q. take j part ++ q) (sym (rw (cut part j h, add-one))) ∙ v.is);
    }

-- all are
pub inking_ends : (row : List ℕ) (dots from : ℕ) (before part : List ℕ) (j : ℕ) → Inking row dots from before part j → length part ≤ j
    → part ≡ inked_line row dots from 0 before
unfolding inked_line
inking_ends row dots from before part j v h =
    sym (sym v.is ∙ rw (drop_of_length-le part h, take_all j part h) (append-nil part))

-- a page row painted dot by dot: j bytes are painted, and the walk stands at the next one
pub record Walking (row : List ℕ) (dots from : ℕ) (before part : List ℕ) (at : Walk) (j : ℕ) : Type 0 where
  pub inked : Inking row dots from before part j
  pub stands : Stands dots from (8 * j) at
  pub near : at.byte ≤ j

-- at first none is
pub walking_starts : (row : List ℕ) (dots from : ℕ) (before : List ℕ) → 0 < dots
    → Walking row dots from before before (record { skip = from; byte = 0; bit = 0; done = 0 }) 0
walking_starts row dots from before h =
    record { inked = inking_starts row dots from before; stands = stands_first dots from h; near = omega arith }

-- one byte more is
walking_again : (row : List ℕ) (dots from : ℕ) (before part : List ℕ) (at : Walk) (j : ℕ) (e : ℕ × Walk) → Walking row dots from before part at j
    → j < length part → get_or part j 0 < 256 → Eighth row dots at e
    → Walking row dots from before (set part j (bit_or (get_or part j 0) e.0)) e.1 (j + 1)
unfolding ink_byte
walking_again row dots from before part at j e v h b g =
    let x : 8 * j + 8 ≡ 8 * (j + 1) = omega arith in
    let s : Stands dots from (8 * (j + 1)) e.1 = rw x at (g.next from (8 * j) v.stands) in
    record {
      inked = inking_again row dots from before part j e.0 v.inked h b (g.inks from (8 * j) v.stands);
      stands = s;
      near = omega (arith, stands_near dots from (8 * (j + 1)) e.1 s);
    }

-- one byte more is: the page row was lent from it on, to be painted with one byte
pub walking_laid : (row : List ℕ) (dots from : ℕ) (before part after : List ℕ) (at : Walk) (j : ℕ) (e : ℕ × Walk) → Walking row dots from before part at j
    → j < length part → ((i : ℕ) → get_or part i 0 < 256) → Eighth row dots at e
    → after ≡ inked_line (e.0 ∷ []) 1 0 0 (take (length part - j) (drop j part)) → Walking row dots from before (put_back part j (length part - j) after) e.1 (j + 1)
walking_laid row dots from before part after at j e v h s g l =
    let f : ℕ → ℕ = λ i. ink row dots from (8 * j + i) in
    let k : e.0 < 256 = rw (g.inks from (8 * j) v.stands) (byte_of_lt f (λ i. ink_lt row dots from (8 * j + i))) in
    rw (laid_one part after j e.0 h k s l) (walking_again row dots from before part at j e v h (s j) g)
