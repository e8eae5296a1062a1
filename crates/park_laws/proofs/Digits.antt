-- Readers one after another, taken apart; a decimal written is read back, and what is read is what is written. Assumes nothing.
use mathlib.Core.Path.{◌≡◌, refl, ap, sym, subst, ◌∙◌}
use Prim.Native.Nat.{ℕ, zero, suc, ◌+◌, ◌*◌, ◌-◌, ◌/◌, ◌%◌, ◌^◌, ◌≤◌, ◌<◌}
use native.Mathlib.Nat.{pow-suc, pow-le-pow_right}
use native.Mathlib.Omega.{arith}
use mathlib.Core.List.{List, [], ◌∷◌, ◌++◌}
use mathlib.Core.Bool.{Bool, true, false, cond, not}
use lib.Dec.{eqb, ltb}
use borrow.Author.Tests.{ltb-true, ltb-false, ne_eqb, eqb-true, eq-eqb, le-ltb, lt-ltb}
use Rattle.common.specs.Choice.{within}
use Rattle.common.proofs.Choices.{choice_by, within_in, within_bounds}
use Rattle.rules.specs.Number.{is_digit}
use Rattle.rules.specs.Plain.{decimal_up_to, decimal}
use Rattle.rules.specs.Texts.{Found, wrong, found, then, expect, expect_all, up_to, number}

-- ---- readers
-- two readers that found something: what the first found and left, and what the second made of it
pub record Twice {A B : Type 0} (g : Found A) (k : A → List ℕ → Found B) (b : B) (r : List ℕ) : Type 0 where
  pub value : A
  pub rest : List ℕ
  pub first : g ≡ found value rest
  pub second : k value rest ≡ found b r

pub never : {A : Type 0} {a : A} {s : List ℕ} → wrong ≡ found a s → ⊥
never e = let z : ◌≡◌ {A = ℕ} 0 1 = cc in omega arith

pub then_inv : {A B : Type 0} (g : Found A) (k : A → List ℕ → Found B) {b : B} {r : List ℕ} → then g k ≡ found b r → Twice g k b r
unfolding then
then_inv wrong k e = absurd (never e)
then_inv (found a s) k e = record { value = a; rest = s; first = refl; second = e }

-- the same, what the first found and left being variables: cheaper where there are many
pub by_then : {A B Q : Type 0} (g : Found A) (k : A → List ℕ → Found B) {b : B} {r : List ℕ} → then g k ≡ found b r
    → ((a : A) (s : List ℕ) → g ≡ found a s → k a s ≡ found b r → Q) → Q
unfolding then
by_then wrong k e q = absurd (never e)
by_then (found a s) k e q = q a s refl e

pub cond_inv : {A : Type 0} (t : Bool) (x : Found A) {a : A} {r : List ℕ} → cond t x wrong ≡ found a r → (t ≡ true) × (x ≡ found a r)
cond_inv true x e = (refl, e)
cond_inv false x e = absurd (never e)

pub found_value : {A : Type 0} {a b : A} {r s : List ℕ} → found a r ≡ found b s → a ≡ b
found_value e = cc

pub found_rest : {A : Type 0} {a b : A} {r s : List ℕ} → found a r ≡ found b s → r ≡ s
found_rest e = cc

-- what holds of the one holds of the other. (Not by `rw`: the facts in scope speak of b and s.)
pub same : {A : Type 0} (P : A → List ℕ → Type 0) {a b : A} {r s : List ℕ} → found a r ≡ found b s → P a r → P b s
same P {a} {b} {r} {s} e h = subst (λ y. P y s) (found_value e) (subst (λ q. P a q) (found_rest e) h)

pub expect_put : (e : ℕ) (s : List ℕ) → expect e (e ∷ s) ≡ found true s
unfolding expect
expect_put e s = rw (eq-eqb e e refl)

pub expect_inv : (e : ℕ) (s : List ℕ) {b : Bool} {r : List ℕ} → expect e s ≡ found b r → e ∷ r ≡ s
unfolding expect
expect_inv e [] q = absurd (never q)
expect_inv e (c ∷ s) q =
    let p = cond_inv (eqb c e) (found true s) q in
    let x : c ≡ e = eqb-true c e p.0 in
    let y = found_rest p.1 in cc

pub word_put : (w s : List ℕ) → expect_all w (w ++ s) ≡ found true s
unfolding expect_all then
word_put [] s = refl
word_put (e ∷ w) s = rw (expect_put e (w ++ s)) (word_put w s)

pub word_inv : (w s : List ℕ) {b : Bool} {r : List ℕ} → expect_all w s ≡ found b r → w ++ r ≡ s
unfolding expect_all
word_inv [] s q = sym (found_rest q)
word_inv (e ∷ w) s q =
    let t = then_inv (expect e s) (λ _ r. expect_all w r) q in
    ap (λ l. e ∷ l) (word_inv w t.rest t.second) ∙ expect_inv e s t.first

-- ---- decimals
is_digit_lem : (d : ℕ) → d < 10 → is_digit (48 + d) ≡ true
is_digit_lem d h = within_in 48 57 (48 + d) (omega arith) (omega arith)

-- no digit comes first
abbrev pub stops : List ℕ → Bool
stops [] = true
stops (b ∷ s) = not (is_digit b)

not-true : (t : Bool) → not t ≡ true → t ≡ false
not-true true e = sym e
not-true false e = refl

pub up_to-stop : (k n : ℕ) (s : List ℕ) → stops s ≡ true → up_to k n s ≡ found n s
unfolding up_to
up_to-stop zero n s e = refl
up_to-stop (suc k) n [] e = refl
up_to-stop (suc k) n (b ∷ s) e = rw (not-true (is_digit b) e)

up_to-step : (k n d : ℕ) (s : List ℕ) → d < 10 → up_to (suc k) n ((48 + d) ∷ s) ≡ up_to k (n * 10 + d) s
unfolding up_to
up_to-step k n d s h = rw (is_digit_lem d h) (ap (λ m. up_to k m s) (omega arith))

number_first : (n : ℕ) (s : List ℕ) → 1 ≤ n → n < 10 → number ((48 + n) ∷ s) ≡ up_to 9 n s
unfolding number
number_first n s l h = rw (ne_eqb (48 + n) 48 (λ e. omega arith), within_in 49 57 (48 + n) (omega arith) (omega arith)) (ap (λ m. up_to 9 m s) (omega arith))

-- the list l begins with the digits of n, g + 1 of them at most; so many may still follow
record Left (l s : List ℕ) (n g : ℕ) : Type 0 where
  more : ℕ
  enough : 9 ≤ more + g
  is : number l ≡ up_to more n s

left_more : (g n d m : ℕ) (s l : List ℕ) → d < 10 → g < 9 → m ≡ n * 10 + d → Left l ((48 + d) ∷ s) n g → Left l s m (suc g)
left_more g n d m s l h f e r = go r.more r.enough r.is
  where
    go : (k : ℕ) → 9 ≤ k + g → number l ≡ up_to k n ((48 + d) ∷ s) → Left l s m (suc g)
    go zero q i = absurd (omega arith)
    go (suc k) q i = record { more = k; enough = omega arith; is = i ∙ up_to-step k n d s h ∙ ap (λ x. up_to k x s) (sym e) }

number_upto : (f g n : ℕ) (s : List ℕ) → 1 ≤ n → n < 10 ^ suc g → g ≤ f → g ≤ 9 → Left (decimal_up_to (suc f) n s) s n g
unfolding decimal_up_to
number_upto f zero n s l h p q = choice_by (λ t. Left t s n 0) (ltb n 10)
    (λ e. record { more = 9; enough = omega arith; is = number_first n s l (ltb-true n 10 e) })
    (λ e. absurd (omega (arith, ltb-false n 10 e)))
number_upto zero (suc g) n s l h p q = absurd (omega arith)
number_upto (suc f) (suc g) n s l h p q = choice_by (λ t. Left t s n (suc g)) (ltb n 10)
    (λ e. record { more = 9; enough = omega arith; is = number_first n s l (ltb-true n 10 e) })
    (λ e. let e' = ltb-false n 10 e in left_more g (n / 10) (n % 10) n s _ (omega arith) (omega arith) (omega arith)
    (number_upto f g (n / 10) ((48 + n % 10) ∷ s) (omega arith) (omega (arith, pow-suc 10 (suc g))) (omega arith) (omega arith)))

-- a decimal written is read back
pub number_put : (n : ℕ) (s : List ℕ) → n < 10 ^ 10 → stops s ≡ true → number (decimal n s) ≡ found n s
unfolding decimal number decimal_up_to
number_put zero s h e = refl
number_put (suc n) s h e = let l = number_upto 19 9 (suc n) s (omega arith) h (omega arith) (omega arith) in l.is ∙ up_to-stop l.more (suc n) s e

-- more room for digits changes nothing
fuel : (f n : ℕ) (s : List ℕ) → n < 10 ^ suc f → decimal_up_to (suc f) n s ≡ decimal_up_to (suc (suc f)) n s
unfolding decimal_up_to
fuel zero n s h = rw (lt-ltb n 10 (omega arith))
fuel (suc f) n s h = ap (λ l. cond (ltb n 10) ((48 + n) ∷ s) l) (fuel f (n / 10) ((48 + n % 10) ∷ s) (omega (arith, pow-suc 10 (suc f))))

big_step : (f n d : ℕ) (s : List ℕ) → 1 ≤ n → d < 10 → decimal_up_to (suc f) (n * 10 + d) s ≡ decimal_up_to f n ((48 + d) ∷ s)
unfolding decimal_up_to
big_step f n d s l h =
    let q : (n * 10 + d) / 10 ≡ n = omega arith in
    let r : (n * 10 + d) % 10 ≡ d = omega arith in
    rw (le-ltb (n * 10 + d) 10 (omega arith), q, r)

one_more : (n d : ℕ) (s : List ℕ) → 1 ≤ n → d < 10 → n < 10 ^ 19 → decimal (n * 10 + d) s ≡ decimal n ((48 + d) ∷ s)
unfolding decimal
one_more n d s l h k = big_step 19 n d s l h ∙ fuel 18 n ((48 + d) ∷ s) k

pow_le : (k m : ℕ) → k ≤ m → 10 ^ k ≤ 10 ^ m
pow_le k m h = pow-le-pow_right {n = 10} (omega arith) h

decimal_zero : (s : List ℕ) → decimal 0 s ≡ 48 ∷ s
unfolding decimal decimal_up_to
decimal_zero s = refl

decimal_one : (n : ℕ) (s : List ℕ) → n < 10 → decimal n s ≡ (48 + n) ∷ s
unfolding decimal decimal_up_to
decimal_one n s h = rw (lt-ltb n 10 h)

-- the digits read are the digits written
upto_inv : (f k n : ℕ) (s : List ℕ) {m : ℕ} {r : List ℕ} → 1 ≤ n → n < 10 ^ k → k + f ≤ 19 → up_to f n s ≡ found m r → decimal m r ≡ decimal n s
unfolding up_to
upto_inv zero k n s l h b e = let x = found_value e in let y = found_rest e in cc
upto_inv (suc f) k n [] l h b e = let x = found_value e in let y = found_rest e in cc
upto_inv (suc f) k n (c ∷ s) {m} {r} l h b e = go (is_digit c) refl e
    (λ q d. upto_inv f (suc k) (n * 10 + (c - 48)) s (omega arith) (omega (arith, pow-suc 10 k)) (omega arith) q)
  where
    go : (t : Bool) → is_digit c ≡ t → cond t (up_to f (n * 10 + (c - 48)) s) (found n (c ∷ s)) ≡ found m r
        → (up_to f (n * 10 + (c - 48)) s ≡ found m r → c - 48 < 10 → decimal m r ≡ decimal (n * 10 + (c - 48)) s) → decimal m r ≡ decimal n (c ∷ s)
    go true t q ih =
        let d = within_bounds 48 57 c t in
        let a = d.0 in let z = d.1 in
        let x : 48 + (c - 48) ≡ c = omega arith in
        let y : n < 10 ^ 19 = omega (arith, pow_le k 19 (omega arith)) in
        ih q (omega arith) ∙ one_more n (c - 48) s l (omega arith) y ∙ ap (λ b. decimal n (b ∷ s)) x
    go false t q ih = let x = found_value q in let y = found_rest q in cc

-- a number read, written in front of what was left, is what was read
pub number_inv : (s : List ℕ) {n : ℕ} {r : List ℕ} → number s ≡ found n r → decimal n r ≡ s
unfolding number
number_inv [] e = absurd (never e)
number_inv (c ∷ s) {n} {r} e = go (eqb c 48) (within 49 57 c) refl refl e
  where
    go : (t u : Bool) → eqb c 48 ≡ t → within 49 57 c ≡ u → cond t (found 0 s) (cond u (up_to 9 (c - 48) s) wrong) ≡ found n r → decimal n r ≡ c ∷ s
    go true u t x q =
        let z : c ≡ 48 = eqb-true c 48 t in
        let a = found_value q in let b = found_rest q in
        rw (← a, ← b, z) (decimal_zero s)
    go false true t x q =
        let d = within_bounds 49 57 c x in
        let a = d.0 in let z = d.1 in
        let y : 48 + (c - 48) ≡ c = omega arith in
        upto_inv 9 1 (c - 48) s (omega arith) (omega arith) (omega arith) q ∙ decimal_one (c - 48) s (omega arith) ∙ ap (λ b. b ∷ s) y
    go false false t x q = absurd (never q)

-- a number read has at most ten digits
upto_small : (f k n : ℕ) (s : List ℕ) {m : ℕ} {r : List ℕ} → n < 10 ^ k → up_to f n s ≡ found m r → m < 10 ^ (k + f)
unfolding up_to
upto_small zero k n s h e = let x = found_value e in let z : k + 0 ≡ k = omega arith in rw z (omega arith)
upto_small (suc f) k n [] h e = let x = found_value e in omega (arith, pow_le k (k + suc f) (omega arith))
upto_small (suc f) k n (c ∷ s) {m} {r} h e = go (is_digit c) refl e
    (λ q d. let z : suc k + f ≡ k + suc f = omega arith in rw z at (upto_small f (suc k) (n * 10 + (c - 48)) s (omega (arith, pow-suc 10 k)) q))
  where
    go : (t : Bool) → is_digit c ≡ t → cond t (up_to f (n * 10 + (c - 48)) s) (found n (c ∷ s)) ≡ found m r
        → (up_to f (n * 10 + (c - 48)) s ≡ found m r → c - 48 < 10 → m < 10 ^ (k + suc f)) → m < 10 ^ (k + suc f)
    go true t q ih = let d = within_bounds 48 57 c t in let a = d.0 in let z = d.1 in ih q (omega arith)
    go false t q ih = let x = found_value q in omega (arith, pow_le k (k + suc f) (omega arith))

pub number_small : (s : List ℕ) {n : ℕ} {r : List ℕ} → number s ≡ found n r → n < 10 ^ 10
unfolding number
number_small [] e = absurd (never e)
number_small (c ∷ s) {n} {r} e = go (eqb c 48) (within 49 57 c) refl refl e
  where
    go : (t u : Bool) → eqb c 48 ≡ t → within 49 57 c ≡ u → cond t (found 0 s) (cond u (up_to 9 (c - 48) s) wrong) ≡ found n r → n < 10 ^ 10
    go true u t x q = let a = found_value q in omega arith
    go false true t x q =
        let d = within_bounds 49 57 c x in
        let a = d.0 in let z = d.1 in
        upto_small 9 1 (c - 48) s (omega arith) q
    go false false t x q = absurd (never q)
