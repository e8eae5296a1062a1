-- Numbers written by a writer. Assumes nothing.
use Rattle.std.proofs.Common.{◌≡◌, refl, ap, ◌∙◌, ℕ, zero, suc, ◌+◌, ◌-◌, ◌/◌, ◌%◌, ◌^◌, ◌≤◌, ◌<◌, List, [], ◌∷◌, length, drop, set, get_or, arith, pow-suc, add-one, length-set, drop_of_length-le, lt-ltb, eq-eqb, ne_eqb}
use Rattle.std.proofs.lemmas.List.{drop-set}
use Rattle.common.specs.declared.writer.Writer.{Writer}
use Rattle.common.specs.Writing.{Written}
use Rattle.common.proofs.Writing.{written_none, written_inside, written_both}
use Rattle.rules.specs.Plain.{decimal_up_to, decimal, places_up_to, put_size}
use Rattle.number_write.proofs.Laws.{decimal_append, upto_last}
use Rattle.number_write.proofs.Places.{weights, places_from, Low, places_none, places_some, low_behind, low_end}

-- ---- decimal

-- the loop that fills in digits, the last first: with those that are left all are there
pub record Filling (n : ℕ) (now : List ℕ) (left i : ℕ) : Type 0 where
  pub inside : i < 20
  pub kept : length now ≡ 20
  pub low : left < 10 ^ suc i
  pub ends : decimal_up_to (suc i) left (drop (suc i) now) ≡ decimal n []

-- none is there yet
pub filling_start : (n : ℕ) (l : List ℕ) → n < 2 ^ 64 → length l ≡ 20 → Filling n l n 19
unfolding decimal
filling_start n l f e = record {
  inside = omega arith;
  kept = e;
  low = omega arith;
  ends = ap (decimal_up_to 20 n) (drop_of_length-le l {i = 20} (omega arith));
}

-- the digits from a place on where one was put
put_digit : (now : List ℕ) (i b : ℕ) → length now ≡ 20 → i < 20 → drop i (set now i b) ≡ b ∷ drop (suc i) now
put_digit now i b e h = drop-set now i b (omega arith) ∙ rw (add-one i) refl

-- a number of several digits has a place before this one
pub filling_more : (n : ℕ) (now : List ℕ) (left i : ℕ) → Filling n now left i → 10 ≤ left → 1 ≤ i
filling_more n now left zero f h = absurd (omega (arith, f.low))
filling_more n now left (suc k) f h = omega arith

-- its last digit goes to this place
filling_less : (n : ℕ) (now : List ℕ) (left k : ℕ) → Filling n now left (suc k) → 10 ≤ left → Filling n (set now (suc k) (48 + left % 10)) (left / 10) k
filling_less n now left k f h = record {
  inside = omega (arith, f.inside);
  kept = length-set now (suc k) (48 + left % 10) ∙ f.kept;
  low = omega (arith, f.low, pow-suc 10 (suc k));
  ends = rw (put_digit now (suc k) (48 + left % 10) f.kept f.inside) (rw (upto_last (suc k) left (drop (suc (suc k)) now) h) at f.ends);
}

pub filling_again : (n : ℕ) (now : List ℕ) (left i : ℕ) → Filling n now left i → 10 ≤ left → Filling n (set now i (48 + left % 10)) (left / 10) (i - 1)
filling_again n now left zero f h = absurd (omega (arith, f.low))
filling_again n now left (suc k) f h = let z : suc k - 1 ≡ k = omega arith in rw z (filling_less n now left k f h)

-- and then the first
pub filling_end : (n : ℕ) (now : List ℕ) (left i : ℕ) → Filling n now left i → left < 10 → drop i (set now i (48 + left)) ≡ decimal n []
unfolding decimal_up_to
filling_end n now left i f h = put_digit now i (48 + left) f.kept f.inside ∙ rw (lt-ltb left 10 h) at f.ends

-- ---- places behind a point

-- the loop that writes places: with those from the k-th on all are written
pub record Leaving (before : Writer) (n : ℕ) (now : Writer) (left k : ℕ) : Type 0 where
  pub low : Low k left
  pub ends : (after : Writer) → Written now (places_from k left) after → Written before (places_up_to 4 1000 n []) after
  pub done : left ≡ 0 → Written before (places_up_to 4 1000 n []) now

-- where nothing is left they are
leaving : {before now : Writer} {n left k : ℕ} → now.at ≤ length now.room.now → k ≤ 4 → Low k left → ((after : Writer) → Written now (places_from k left) after → Written before (places_up_to 4 1000 n []) after)
    → Leaving before n now left k
leaving {now = now} {left = left} {k = k} i h l f = record { low = l; ends = f; done = λ e. f now (rw (places_none k left h e) (written_none now i)) }

-- none is written yet
pub leaving_start : (before : Writer) (n : ℕ) → n < 10000 → before.at ≤ length before.room.now → Leaving before n before n 0
leaving_start before n h i = leaving i (omega arith) h (λ after w. w)

module _ {before now : Writer} {n left k : ℕ} (inv : Leaving before n now left k) where
  -- one more place
  pub leaving_again : {next : Writer} {b : ℕ} → k < 4 → (left ≡ 0 → ⊥) → b ≡ 48 + left / get_or weights k 0 → Written now (b ∷ []) next
      → Leaving before n next (left % get_or weights k 0) (k + 1)
  leaving_again h z d w = leaving (written_inside w) (omega arith) (low_behind k left h) (λ after v. inv.ends after (rw (places_some k left h z, ← d) (written_both w v)))

  -- no place is left
  pub leaving_end : 4 ≤ k → k ≤ 4 → Written before (places_up_to 4 1000 n []) now
  leaving_end h j = inv.done (low_end k left h j inv.low)

-- ---- a size

module _ {a b : Writer} (n : ℕ) (w : Written a (decimal (n / 10000) []) b) where
  -- no places: no point
  pub written_whole : n % 10000 ≡ 0 → Written a (put_size n []) b
  unfolding put_size
  written_whole e = rw (eq-eqb (n % 10000) 0 e) w

  -- a point, and places behind it
  pub written_point : {c d : Writer} → (n % 10000 ≡ 0 → ⊥) → Written b (46 ∷ []) c → Written c (places_up_to 4 1000 (n % 10000) []) d → Written a (put_size n []) d
  unfolding put_size
  written_point e p q =
      rw (ne_eqb (n % 10000) 0 e, decimal_append (n / 10000) [] (46 ∷ places_up_to 4 1000 (n % 10000) [])) (written_both w (written_both p q))
