-- The places behind a point, one by one. Assumes nothing.
use Rattle.std.proofs.Common.{◌≡◌, refl, ℕ, zero, suc, ◌+◌, ◌-◌, ◌*◌, ◌/◌, ◌%◌, ◌^◌, ◌≤◌, ◌<◌, List, [], ◌∷◌, get_or, arith, eq-eqb, ne_eqb}
use Rattle.rules.specs.Plain.{places_up_to}

-- the weights of the places
abbrev pub weights : List ℕ
weights = 1000 ∷ 100 ∷ 10 ∷ 1 ∷ []

-- of n the places from the k-th on
abbrev pub places_from : ℕ → ℕ → List ℕ
places_from k n = places_up_to (4 - k) (get_or weights k 0) n []

-- n fits the places from the k-th on
abbrev pub Low : ℕ → ℕ → Type 0
Low k n = n < 10 ^ (4 - k)

-- of 0 none is written
pub places_none : (k n : ℕ) → k ≤ 4 → n ≡ 0 → places_from k n ≡ []
unfolding places_up_to
places_none zero n h e = rw (eq-eqb n 0 e)
places_none (suc zero) n h e = rw (eq-eqb n 0 e)
places_none (suc (suc zero)) n h e = rw (eq-eqb n 0 e)
places_none (suc (suc (suc zero))) n h e = rw (eq-eqb n 0 e)
places_none (suc (suc (suc (suc zero)))) n h e = refl
places_none (suc (suc (suc (suc (suc k))))) n h e = absurd (omega (arith, h))

-- of any other number the first, and then those behind it
pub places_some : (k n : ℕ) → k < 4 → (n ≡ 0 → ⊥) → places_from k n ≡ (48 + n / get_or weights k 0) ∷ places_from (k + 1) (n % get_or weights k 0)
unfolding places_up_to
places_some zero n h z = rw (ne_eqb n 0 z)
places_some (suc zero) n h z = rw (ne_eqb n 0 z)
places_some (suc (suc zero)) n h z = rw (ne_eqb n 0 z)
places_some (suc (suc (suc zero))) n h z = rw (ne_eqb n 0 z)
places_some (suc (suc (suc (suc k)))) n h z = absurd (omega (arith, h))

-- its first place is a digit
pub low_first : (k n : ℕ) → k < 4 → Low k n → n < 10 * get_or weights k 0
low_first zero n h l = omega (arith, l)
low_first (suc zero) n h l = omega (arith, l)
low_first (suc (suc zero)) n h l = omega (arith, l)
low_first (suc (suc (suc zero))) n h l = omega (arith, l)
low_first (suc (suc (suc (suc k)))) n h l = absurd (omega (arith, h))

-- and the rest of it fits those behind
pub low_behind : (k n : ℕ) → k < 4 → Low (k + 1) (n % get_or weights k 0)
low_behind zero n h = omega arith
low_behind (suc zero) n h = omega arith
low_behind (suc (suc zero)) n h = omega arith
low_behind (suc (suc (suc zero))) n h = omega arith
low_behind (suc (suc (suc (suc k)))) n h = absurd (omega (arith, h))

-- with no place left nothing is
pub low_end : (k n : ℕ) → 4 ≤ k → k ≤ 4 → Low k n → n ≡ 0
low_end k n a b l = let e : k ≡ 4 = omega arith in let h : n < 1 = rw e at l in omega arith
