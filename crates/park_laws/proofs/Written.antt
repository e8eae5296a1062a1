-- The lines of a text: what is written is read back, and what is read is what is written. Assumes nothing.
use mathlib.Core.Path.{◌≡◌, refl, ap, ◌∙◌}
use Prim.Native.Nat.{ℕ, zero, suc, ◌+◌, ◌*◌, ◌-◌, ◌/◌, ◌%◌, ◌<◌}
use native.Mathlib.Omega.{arith}
use mathlib.Core.List.{List, [], ◌∷◌, ◌++◌}
use mathlib.Core.Bool.{Bool, true}
use mathlib.Core.Logic.{⊎_elim}
use lib.Dec.{ltb}
use lib.ListN.{length}
use borrow.Author.Tests.{ltb-true, ltb-false, le-ltb, lt-ltb}
use Rattle.common.specs.Choice.{within}
use Rattle.common.proofs.Choices.{choice_by, within_in, within_bounds, or_true_left, or_true_right, or_cases, and_true}
use Rattle.rules.specs.declared.Spot.{Spot}
use Rattle.rules.specs.Plain.{decimal}
use Rattle.rules.specs.Report.{fields as put_fields, line}
use Rattle.rules.specs.Texts.{Found, found, then, many, put_many, field, numbers, line_of, POS, two_numbers, spot_from, position, put_position, hex, is_hex, unhex, pair, put_pair, ROW, row, put_row}
use Rattle.park_laws.specs.Facts.{Each, none, each, Fit, end, fit, TenDigits, SmallSpot, IsByte}
use Rattle.park_laws.proofs.Digits.{never, by_then, cond_inv, found_value, found_rest, same, expect_put, expect_inv, word_put, word_inv, stops, number_put, number_inv, number_small}

-- ---- a line of numbers
stops_fields : (ns s : List ℕ) → stops (put_fields ns s) ≡ true
unfolding put_fields
stops_fields [] s = refl
stops_fields (n ∷ ns) s = refl

field_put : (n : ℕ) (s : List ℕ) → TenDigits n → stops s ≡ true → field (9 ∷ decimal n s) ≡ found n s
unfolding field then
field_put n s h e = rw (expect_put 9 (decimal n s)) (number_put n s h e)

field_inv : (s : List ℕ) {n : ℕ} {r : List ℕ} → field s ≡ found n r → (TenDigits n) × (9 ∷ decimal n r ≡ s)
unfolding field
field_inv s e = by_then _ _ e (λ a s1 e1 k1. (number_small s1 k1, ap (λ q. 9 ∷ q) (number_inv s1 k1) ∙ expect_inv 9 s e1))

numbers_put : {l : List Bool} {ns : List ℕ} (s : List ℕ) → Fit l ns → Each TenDigits ns → numbers l (put_fields ns s) ≡ found ns s
unfolding numbers put_fields then
numbers_put s end none = rw (expect_put 10 s)
numbers_put s (fit {n = n} {ns = ns} p f) (each h u) = rw (field_put n (put_fields ns s) h (stops_fields ns s), p, numbers_put s f u)

numbers_inv : (l : List Bool) (s : List ℕ) {ns r : List ℕ} → numbers l s ≡ found ns r → (Fit l ns) × (Each TenDigits ns) × (put_fields ns r ≡ s)
unfolding numbers put_fields
numbers_inv [] s {ns} {r} e = by_then _ _ e (λ a s1 e1 k1. same (λ ns r. (Fit [] ns) × (Each TenDigits ns) × (put_fields ns r ≡ s)) k1 (end, none, expect_inv 10 s e1))
numbers_inv (flag ∷ l) s {ns} {r} e = by_then _ _ e (λ n s1 e1 k1.
    let c = cond_inv _ _ k1 in
    by_then _ _ c.1 (λ ns' s2 e2 k2.
    let ih = numbers_inv l s1 e2 in
    let f = field_inv s e1 in
    same (λ ns r. (Fit (flag ∷ l) ns) × (Each TenDigits ns) × (put_fields ns r ≡ s)) k2 (fit c.0 ih.0, each f.0 ih.1, ap (λ q. 9 ∷ decimal n q) ih.2 ∙ f.1)))

pub line_put : (w : List ℕ) {l : List Bool} {ns : List ℕ} (s : List ℕ) → Fit l ns → Each TenDigits ns → line_of w l (line w ns s) ≡ found ns s
unfolding line_of then
line_put w {l} {ns} s f u = rw (word_put w (put_fields ns s)) (numbers_put s f u)

pub line_inv : (w : List ℕ) (l : List Bool) (s : List ℕ) {ns r : List ℕ} → line_of w l s ≡ found ns r → (Fit l ns) × (Each TenDigits ns) × (line w ns r ≡ s)
unfolding line_of
line_inv w l s e = by_then _ _ e (λ a s1 e1 k1. let n = numbers_inv l s1 k1 in (n.0, n.1, ap (λ q. w ++ q) n.2 ∙ word_inv w s e1))

-- ---- as many of one kind
pub many_put : {A : Type 0} (f : List ℕ → Found A) (put : A → List ℕ → List ℕ) {P : A → Type 0} → ((a : A) (s : List ℕ) → P a → f (put a s) ≡ found a s)
    → {l : List A} (s : List ℕ) → Each P l → many f (length l) (put_many put l s) ≡ found l s
unfolding many put_many then
many_put f put h s none = refl
many_put f put h s (each {a = a} {l = l} p u) = rw (h a (put_many put l s) p, many_put f put h s u)

pub many_inv : {A : Type 0} (f : List ℕ → Found A) (put : A → List ℕ → List ℕ) {P : A → Type 0} → ((s : List ℕ) (a : A) (r : List ℕ) → f s ≡ found a r → (P a) × (put a r ≡ s))
    → (n : ℕ) (s : List ℕ) {l : List A} {r : List ℕ} → many f n s ≡ found l r → (length l ≡ n) × (Each P l) × (put_many put l r ≡ s)
unfolding many put_many
many_inv f put {P} h zero s {l} {r} e = same (λ l r. (length l ≡ 0) × (Each P l) × (put_many put l r ≡ s)) e (refl, none, refl)
many_inv f put {P} h (suc n) s {l} {r} e = by_then _ _ e (λ a s1 e1 k1. by_then _ _ k1 (λ l' s2 e2 k2.
    let ih = many_inv f put h n s1 e2 in
    let q = h s a s1 e1 in
    same (λ l r. (length l ≡ suc n) × (Each P l) × (put_many put l r ≡ s)) k2 (ap suc ih.0, each q.0 ih.1, ap (put a) ih.2 ∙ q.1)))

-- ---- positions
pub position_put : (p : Spot) (s : List ℕ) → SmallSpot p → position (put_position p s) ≡ found p s
unfolding position put_position then
position_put p s h = rw (line_put POS {l = two_numbers} {ns = p.x ∷ p.y ∷ []} s (fit refl (fit refl end)) (each h.0 (each h.1 none)))

spot_fits : {ns : List ℕ} → Fit two_numbers ns → Each TenDigits ns → (SmallSpot (spot_from ns)) × ((spot_from ns).x ∷ (spot_from ns).y ∷ [] ≡ ns)
spot_fits (fit _ (fit _ end)) (each a (each b none)) = ((a, b), refl)

pub position_inv : (s : List ℕ) (p : Spot) (r : List ℕ) → position s ≡ found p r → (SmallSpot p) × (put_position p r ≡ s)
unfolding position put_position
position_inv s p r e = by_then _ _ e (λ ns s1 e1 k1.
    let i = line_inv POS two_numbers s e1 in
    let t = spot_fits i.0 i.1 in
    same (λ p r. (SmallSpot p) × (line POS (p.x ∷ p.y ∷ []) r ≡ s)) k1 (t.0, ap (λ l. line POS l s1) t.1 ∙ i.2))

-- ---- pairs of hexadecimal digits
hex_is : (d : ℕ) → d < 16 → is_hex (hex d) ≡ true
unfolding hex is_hex
hex_is d h = choice_by (λ x. is_hex x ≡ true) (ltb d 10)
    (λ e. let e' = ltb-true d 10 e in or_true_left (within 48 57 (48 + d)) (within 65 70 (48 + d)) (within_in 48 57 (48 + d) (omega arith) (omega arith)))
    (λ e. let e' = ltb-false d 10 e in or_true_right (within 48 57 (55 + d)) (within 65 70 (55 + d)) (within_in 65 70 (55 + d) (omega arith) (omega arith)))

hex_back : (d : ℕ) → d < 16 → unhex (hex d) ≡ d
unfolding hex unhex
hex_back d h = choice_by (λ x. unhex x ≡ d) (ltb d 10)
    (λ e. let e' = ltb-true d 10 e in rw (lt-ltb (48 + d) 58 (omega arith)) (omega arith))
    (λ e. let e' = ltb-false d 10 e in rw (le-ltb (55 + d) 58 (omega arith)) (omega arith))

unhex_back : (b : ℕ) → is_hex b ≡ true → (unhex b < 16) × (hex (unhex b) ≡ b)
unfolding hex unhex is_hex
unhex_back b h = ⊎_elim
    (λ e. let w = within_bounds 48 57 b e in let l = w.0 in let u = w.1 in
    rw (lt-ltb b 58 (omega arith), lt-ltb (b - 48) 10 (omega arith)) (omega arith, omega arith))
    (λ e. let w = within_bounds 65 70 b e in let l = w.0 in let u = w.1 in
    rw (le-ltb b 58 (omega arith), le-ltb (b - 55) 10 (omega arith)) (omega arith, omega arith))
    (or_cases (within 48 57 b) (within 65 70 b) h)

pub pair_put : (b : ℕ) (s : List ℕ) → IsByte b → pair (put_pair b s) ≡ found b s
unfolding pair put_pair
pair_put b s h =
    rw (hex_is (b / 16) (omega arith), hex_is (b % 16) (omega arith), hex_back (b / 16) (omega arith), hex_back (b % 16) (omega arith))
    (ap (λ n. found n s) (omega arith))

pub pair_inv : (s : List ℕ) (b : ℕ) (r : List ℕ) → pair s ≡ found b r → (IsByte b) × (put_pair b r ≡ s)
unfolding pair put_pair
pair_inv [] b r e = absurd (never e)
pair_inv (a ∷ []) b r e = absurd (never e)
pair_inv (a ∷ c ∷ s) b r e =
    let k = cond_inv _ _ e in
    let t = and_true (is_hex a) (is_hex c) k.0 in
    let p = unhex_back a t.0 in
    let q = unhex_back c t.1 in
    let p0 = p.0 in let q0 = q.0 in
    let x = found_value k.1 in
    let y = found_rest k.1 in
    let d : (unhex a * 16 + unhex c) / 16 ≡ unhex a = omega arith in
    let m : (unhex a * 16 + unhex c) % 16 ≡ unhex c = omega arith in
    rw (← x, ← y, d, m, p.1, q.1) (omega arith, refl)

-- ---- the last line
pub row_put : {l : List ℕ} (s : List ℕ) → Each IsByte l → row (length l) (put_row l s) ≡ found l s
unfolding row put_row then
row_put {l} s u = rw (word_put ROW (put_many put_pair l (10 ∷ s)), many_put pair put_pair pair_put (10 ∷ s) u, expect_put 10 s)

pub row_inv : (n : ℕ) (s : List ℕ) {l r : List ℕ} → row n s ≡ found l r → (length l ≡ n) × (Each IsByte l) × (put_row l r ≡ s)
unfolding row put_row
row_inv n s e = by_then _ _ e (λ a s1 e1 k1. by_then _ _ k1 (λ l s2 e2 k2. by_then _ _ k2 (λ c s3 e3 k3.
    let p = many_inv pair put_pair pair_inv n s1 e2 in
    same (λ l r. (length l ≡ n) × (Each IsByte l) × (ROW ++ put_many put_pair l (10 ∷ r) ≡ s)) k3
    (p.0, p.1, ap (λ q. ROW ++ put_many put_pair l q) (expect_inv 10 s2 e3) ∙ ap (λ q. ROW ++ q) p.2 ∙ word_inv ROW s e1))))
