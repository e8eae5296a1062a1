-- A word read digit by digit. Assumes nothing.
use mathlib.Core.Path.{◌≡◌, refl}
use mathlib.Core.List.{List}
use mathlib.Core.Logic.{◌⊎◌, ⊎_elim}
use Prim.Native.Nat.{ℕ, ◌+◌, ◌≤◌, ◌<◌}
use native.Mathlib.Omega.{arith}
use lib.ListN.{length, drop, get_or, drop_of_length-le}
use Rattle.common.proofs.Choices.{within_in, within_under, within_over}
use Rattle.common.proofs.Places.{cut}
use Rattle.number_word.specs.Words.{one_digit, digits_from, amount_word}

-- the digits before place i make n
pub record Reads (most : ℕ) (word : List ℕ) (i n : ℕ) : Type 0 where
  pub same : digits_from most n (drop i word) ≡ amount_word most word
  pub small : n ≤ most
  pub inside : i ≤ length word

pub reads_first : (most : ℕ) (word : List ℕ) → Reads most word 0 0
reads_first most word = record { same = refl; small = omega arith; inside = omega arith }

module _ (most : ℕ) (word : List ℕ) (i n : ℕ) (h : Reads most word i n) where
  -- all is read
  pub reads_end : length word ≤ i → n ≡ amount_word most word
  unfolding digits_from
  reads_end l = rw (drop_of_length-le word l) at h.same

  module _ (l : i < length word) where
    -- no digit
    pub reads_no : (get_or word i 0 < 48) ⊎ (57 < get_or word i 0) → 0 ≡ amount_word most word
    unfolding digits_from
    reads_no u = rw (cut word i l, ⊎_elim (within_under 48 57 (get_or word i 0)) (within_over 48 57 (get_or word i 0)) u) at h.same

    -- a digit
    pub reads_more : 48 ≤ get_or word i 0 → get_or word i 0 ≤ 57 → (m : ℕ) → m ≡ one_digit most n (get_or word i 0) → m ≤ most → Reads most word (i + 1) m
    unfolding digits_from
    reads_more u v m e s = record {
      same = rw e (rw (cut word i l, within_in 48 57 (get_or word i 0) u v) at h.same);
      small = s;
      inside = omega arith;
    }
