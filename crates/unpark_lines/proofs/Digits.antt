-- The digits of a decimal, one after the other. Assumes nothing.
use Rattle.std.proofs.Common.{◌≡◌, ℕ, ◌+◌, ◌*◌, ◌-◌, ◌^◌, ◌<◌, ◌≤◌, true, false, zero, suc, List, [], ◌∷◌, length, refl, arith, add-one}
use Rattle.std.specs.Char.{is_ascii_digit}
use native.Mathlib.Nat.{pow-suc, pow-le-pow_right}
use Rattle.common.proofs.Choices.{within_bounds}
use Rattle.rules.specs.Texts.{found, up_to}

-- a number with a digit to come has eighteen at most
pub few_digits : (n i : ℕ) → n < 10 ^ (i + 1) → i < 18 → n < 1000000000000000000
few_digits n i h l =
    let p : 10 ^ (i + 1) ≤ 10 ^ 18 = pow-le-pow_right {n = 10} (omega arith) {i = i + 1} {j = 18} (omega arith) in
    omega arith

-- and behind it one more
pub more_digits : (n i d : ℕ) → n < 10 ^ (i + 1) → d < 10 → n * 10 + d < 10 ^ (i + 1 + 1)
more_digits n i d h l =
    let p : 10 ^ (i + 1 + 1) ≡ 10 ^ (i + 1) * 10 = rw (add-one (i + 1)) (pow-suc 10 (i + 1)) in omega arith

-- what a digit says
pub digit_bounds : (b : ℕ) → is_ascii_digit b ≡ true → (48 ≤ b) × (b < 58)
digit_bounds b e = let k = within_bounds 48 57 b e in (omega arith, omega arith)

-- one more digit
pub digit_more : (most i n b : ℕ) (s t : List ℕ) → i < most → is_ascii_digit b ≡ true → s ≡ b ∷ t → up_to (most - i) n s ≡ up_to (most - (i + 1)) (n * 10 + (b - 48)) t
unfolding up_to
digit_more most i n b s t h d e = let f : most - i ≡ suc (most - (i + 1)) = omega arith in rw (e, f, d) refl

-- another byte ends the number
pub digit_none : (f n b : ℕ) (s t : List ℕ) → is_ascii_digit b ≡ false → s ≡ b ∷ t → up_to f n s ≡ found n s
unfolding up_to
digit_none zero n b s t d e = refl
digit_none (suc f) n b s t d e = rw (e, d) refl

-- and so does the end
pub digit_end : (f n : ℕ) (s : List ℕ) → length s ≡ 0 → up_to f n s ≡ found n s
unfolding up_to
digit_end zero n s e = refl
digit_end (suc f) n [] e = refl
digit_end (suc f) n (b ∷ s) e = absurd (omega arith)

-- and so does the last that may follow
pub digit_last : (most i n : ℕ) (s : List ℕ) → most ≤ i → up_to (most - i) n s ≡ found n s
unfolding up_to
digit_last most i n s h = let f : most - i ≡ 0 = omega arith in rw f refl
