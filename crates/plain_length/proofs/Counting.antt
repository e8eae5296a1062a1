-- Numbers and values as they are written, counted. Assumes nothing.
use Rattle.std.proofs.Common.{◌≡◌, ap, Bool, [], ◌∷◌, ℕ, suc, ◌+◌, ◌/◌, ◌%◌, ◌^◌, ◌≤◌, ◌<◌, arith, length, length-append, get_or, eq-eqb, ne_eqb}
use Rattle.rules.specs.declared.Value.{Value}
use Rattle.rules.specs.declared.Value.TheVariants.{Absolute, Relative}
use Rattle.rules.specs.Plain.{decimal, places_up_to, put_size, put_value}
use Rattle.number_write.proofs.Laws.{decimal_append, decimal_digit, decimal_last, decimal_some}
use Rattle.number_write.proofs.Places.{weights, places_from, Low, places_none, places_some, low_behind, low_end}
use Rattle.plain_length.specs.Counts.{Counted}

-- ---- decimal

-- one digit is one byte
digit_length : (n : ℕ) → n < 10 → length (decimal n []) ≡ 1
digit_length n h = rw (decimal_digit n [] h)

-- the last digit is one byte more
last_length : (n : ℕ) → 10 ≤ n → n < 10 ^ 20 → length (decimal n []) ≡ length (decimal (n / 10) []) + 1
last_length n h f = rw (decimal_last n [] h f, decimal_append (n / 10) [] ((48 + n % 10) ∷ []), length-append)

-- the loop that counts digits: those counted, and those of what is left, are one more than there are
pub record Numbering (n count left : ℕ) : Type 0 where
  pub fits : left < 10 ^ 20
  pub some : 1 ≤ length (decimal left [])
  pub short : length (decimal n []) ≤ 20
  pub is : length (decimal n []) + 1 ≡ length (decimal left []) + count

module _ (n count left : ℕ) (inv : Numbering n count left) where
  -- one more digit
  pub numbering_again : 10 ≤ left → Numbering n (count + 1) (left / 10)
  numbering_again h =
      let f = inv.fits in
      let e = inv.is in
      let k = last_length left h f in
      record { fits = omega arith; some = decimal_some (left / 10); short = inv.short; is = omega arith }

  -- no more digits
  pub numbering_end : left < 10 → Counted (decimal n []) 20 count
  numbering_end h =
      let e = inv.is in
      let s = inv.short in
      let k = digit_length left h in
      record { is = omega arith; small = omega arith }

-- ---- places behind a point

-- the loop that counts places: those before the k-th are counted, and those from it on are left
pub record Remaining (n count left k : ℕ) : Type 0 where
  pub low : Low k left
  pub so_far : count ≡ k
  pub is : length (places_up_to 4 1000 n []) ≡ length (places_from k left) + count
  pub done : left ≡ 0 → Counted (places_up_to 4 1000 n []) 4 count

-- where nothing is left they are
remaining : {n count left k : ℕ} → k ≤ 4 → Low k left → count ≡ k → length (places_up_to 4 1000 n []) ≡ length (places_from k left) + count → Remaining n count left k
remaining {left = left} {k = k} h l e i = record {
  low = l;
  so_far = e;
  is = i;
  done = λ z. let o : length (places_from k left) ≡ 0 = ap length (places_none k left h z) in record { is = omega arith; small = omega arith };
}

-- none is counted yet
pub remaining_start : (n : ℕ) → n < 10000 → Remaining n 0 n 0
remaining_start n h = remaining (omega arith) h (omega arith) (omega arith)

module _ {n count left k : ℕ} (inv : Remaining n count left k) where
  -- one more place
  pub remaining_again : k < 4 → (left ≡ 0 → ⊥) → Remaining n (count + 1) (left % get_or weights k 0) (k + 1)
  remaining_again h z =
      let e : length (places_from k left) ≡ suc (length (places_from (k + 1) (left % get_or weights k 0))) = ap length (places_some k left h z) in
      remaining (omega arith) (low_behind k left h) (omega (arith, inv.so_far)) (omega (arith, inv.is))

  -- no place is left
  pub remaining_end : 4 ≤ k → k ≤ 4 → Counted (places_up_to 4 1000 n []) 4 count
  remaining_end h j = inv.done (low_end k left h j inv.low)

-- ---- a size

module _ (n m : ℕ) (k : Counted (decimal (n / 10000) []) 20 m) where
  -- no places: no point
  pub counted_whole : n % 10000 ≡ 0 → Counted (put_size n []) 25 m
  unfolding put_size
  counted_whole e = rw (eq-eqb (n % 10000) 0 e) (record { is = k.is; small = let s = k.small in omega arith })

  -- a point, and places behind it
  pub counted_point : (p : ℕ) → (n % 10000 ≡ 0 → ⊥) → Counted (places_up_to 4 1000 (n % 10000) []) 4 p → Counted (put_size n []) 25 (m + 1 + p)
  unfolding put_size
  counted_point p e q =
      rw (ne_eqb (n % 10000) 0 e, decimal_append (n / 10000) [] (46 ∷ places_up_to 4 1000 (n % 10000) []))
      (record {
        is = omega (arith, k.is, q.is, length-append (decimal (n / 10000) []) (46 ∷ places_up_to 4 1000 (n % 10000) []));
        small = omega (arith, k.small, q.small);
      })

-- ---- a value

-- an absolute value is as long as its size
pub counted_absolute : (v : Value) (n r : ℕ) → v ≡ Absolute n → Counted (put_size n []) 25 r → Counted (put_value v []) 26 r
unfolding put_value
counted_absolute v n r e k = rw e (record { is = k.is; small = let s = k.small in omega arith })

-- a relative value is one byte longer
pub counted_relative : (v : Value) (negative : Bool) (n r : ℕ) → v ≡ Relative negative n → Counted (put_size n []) 25 r → Counted (put_value v []) 26 (r + 1)
unfolding put_value
counted_relative v negative n r e k = rw e (record { is = let i = k.is in omega arith; small = let s = k.small in omega arith })
