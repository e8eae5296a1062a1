-- Laws of what is written: text in front of more is the text, and then more; and how long it is. Assumes nothing.
use mathlib.Core.Path.{◌≡◌, refl, ap, ◌∙◌}
use mathlib.Core.Bool.{Bool, true, false, cond}
use mathlib.Core.List.{List, [], ◌∷◌, ◌++◌}
use Prim.Native.Nat.{ℕ, zero, suc, ◌+◌, ◌/◌, ◌%◌, ◌^◌, ◌≤◌, ◌<◌}
use native.Mathlib.Omega.{arith}
use native.Mathlib.Nat.{pow-suc}
use lib.Dec.{eqb, ltb}
use lib.ListN.{length}
use borrow.Author.Tests.{lt-ltb, le-ltb}
use Rattle.common.proofs.Choices.{choice}
use Rattle.rules.specs.declared.Value.{Value}
use Rattle.rules.specs.declared.Value.TheVariants.{Absolute, Relative}
use Rattle.rules.specs.declared.Kind.{Kind}
use Rattle.rules.specs.Commands.{use_of}
use Rattle.rules.specs.Plain.{decimal_up_to, decimal, places_up_to, put_size, put_value, is_ignored, put_used}

-- a choice of two texts, each in front of s
cond_append : (t : Bool) (a b s : List ℕ) → cond t (a ++ s) (b ++ s) ≡ cond t a b ++ s
cond_append true a b s = refl
cond_append false a b s = refl

-- so many digits in front of s and t
upto_append : (f n : ℕ) (s t : List ℕ) → decimal_up_to f n (s ++ t) ≡ decimal_up_to f n s ++ t
unfolding decimal_up_to
upto_append zero n s t = refl
upto_append (suc f) n s t =
    ap (λ l. cond (ltb n 10) ((48 + n) ∷ (s ++ t)) l) (upto_append f (n / 10) ((48 + n % 10) ∷ s) t)
    ∙ cond_append (ltb n 10) ((48 + n) ∷ s) (decimal_up_to f (n / 10) ((48 + n % 10) ∷ s)) t

-- a number in decimal in front of s and t
pub decimal_append : (n : ℕ) (s t : List ℕ) → decimal n (s ++ t) ≡ decimal n s ++ t
unfolding decimal
decimal_append n s t = upto_append 20 n s t

-- places in front of s and t
pub places_append : (f weight n : ℕ) (s t : List ℕ) → places_up_to f weight n (s ++ t) ≡ places_up_to f weight n s ++ t
unfolding places_up_to
places_append zero weight n s t = refl
places_append (suc f) weight n s t =
    ap (λ l. cond (eqb n 0) (s ++ t) ((48 + n / weight) ∷ l)) (places_append f (weight / 10) (n % weight) s t)
    ∙ cond_append (eqb n 0) s ((48 + n / weight) ∷ places_up_to f (weight / 10) (n % weight) s) t

-- a size in front of s and t
pub size_append : (n : ℕ) (s t : List ℕ) → put_size n (s ++ t) ≡ put_size n s ++ t
unfolding put_size
size_append n s t =
    ap (λ l. decimal (n / 10000) (cond (eqb (n % 10000) 0) (s ++ t) (46 ∷ l))) (places_append 4 1000 (n % 10000) s t)
    ∙ ap (decimal (n / 10000)) (cond_append (eqb (n % 10000) 0) s (46 ∷ places_up_to 4 1000 (n % 10000) s) t)
    ∙ decimal_append (n / 10000) (cond (eqb (n % 10000) 0) s (46 ∷ places_up_to 4 1000 (n % 10000) s)) t

-- a value in front of s and t
pub value_append : (v : Value) (s t : List ℕ) → put_value v (s ++ t) ≡ put_value v s ++ t
unfolding put_value
value_append (Absolute n) s t = size_append n s t
value_append (Relative negative n) s t = ap (λ l. cond negative 45 43 ∷ l) (size_append n s t)

-- a value as a command uses it, in front of s and t
pub used_append : (k : Kind) (v : Value) (s t : List ℕ) → put_used k v (s ++ t) ≡ put_used k v s ++ t
used_append k v s t =
    ap (cond (is_ignored (use_of k)) (s ++ t)) (value_append v s t) ∙ cond_append (is_ignored (use_of k)) s (put_value v s) t

-- a number of one digit
pub decimal_digit : (n : ℕ) (s : List ℕ) → n < 10 → decimal n s ≡ (48 + n) ∷ s
unfolding decimal decimal_up_to
decimal_digit n s h = rw (lt-ltb n 10 h)

-- where there are digits enough one more does not matter
upto_enough : (f n : ℕ) (s : List ℕ) → n < 10 ^ suc f → decimal_up_to (suc f) n s ≡ decimal_up_to (suc (suc f)) n s
unfolding decimal_up_to
upto_enough zero n s h = rw (lt-ltb n 10 h)
upto_enough (suc f) n s h =
    ap (λ l. cond (ltb n 10) ((48 + n) ∷ s) l) (upto_enough f (n / 10) ((48 + n % 10) ∷ s) (omega (arith, pow-suc 10 (suc f))))

-- a number of several digits with so many allowed: its last digit is written, and what is before it
pub upto_last : (f n : ℕ) (s : List ℕ) → 10 ≤ n → decimal_up_to (suc f) n s ≡ decimal_up_to f (n / 10) ((48 + n % 10) ∷ s)
unfolding decimal_up_to
upto_last f n s h = rw (le-ltb n 10 h)

-- the same of any number of a machine
pub decimal_last : (n : ℕ) (s : List ℕ) → 10 ≤ n → n < 10 ^ 20 → decimal n s ≡ decimal (n / 10) ((48 + n % 10) ∷ s)
unfolding decimal
decimal_last n s h l = upto_last 19 n s h ∙ upto_enough 18 (n / 10) ((48 + n % 10) ∷ s) (omega arith)

-- so many digits at most are written
upto_short : (f n : ℕ) (s : List ℕ) → length (decimal_up_to f n s) ≤ f + length s
unfolding decimal_up_to
upto_short zero n s = omega arith
upto_short (suc f) n s =
    choice (λ (l : List ℕ). length l ≤ suc f + length s) (ltb n 10) (omega arith)
    (let h = upto_short f (n / 10) ((48 + n % 10) ∷ s) in omega arith)

-- a number has at most twenty digits
pub decimal_short : (n : ℕ) → length (decimal n []) ≤ 20
unfolding decimal
decimal_short n = omega (arith, upto_short 20 n [])

-- at least one is written
upto_some : (f n : ℕ) (s : List ℕ) → length s + 1 ≤ length (decimal_up_to (suc f) n s)
unfolding decimal_up_to
upto_some zero n s = choice (λ (l : List ℕ). length s + 1 ≤ length l) (ltb n 10) (omega arith) (omega arith)
upto_some (suc f) n s =
    choice (λ (l : List ℕ). length s + 1 ≤ length l) (ltb n 10) (omega arith)
    (let h = upto_some f (n / 10) ((48 + n % 10) ∷ s) in omega arith)

-- a number has at least one digit
pub decimal_some : (n : ℕ) → 1 ≤ length (decimal n [])
unfolding decimal
decimal_some n = omega (arith, upto_some 19 n [])
