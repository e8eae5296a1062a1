-- A value read at a place of a list of bytes. Assumes nothing.
use mathlib.Core.Path.{◌≡◌, refl, sym, ap, ◌∙◌}
use mathlib.Core.Bool.{Bool, true, false, cond}
use mathlib.Core.Logic.{⊎_elim}
use mathlib.Core.List.{List, [], ◌∷◌}
use Prim.Native.Nat.{ℕ, ◌+◌, ◌*◌, ◌-◌, ◌/◌, ◌≤◌, ◌<◌, min, max}
use native.Mathlib.Omega.{arith}
use native.Mathlib.Nat.{mul-le-mul_right}
use lib.Dec.{eqb}
use lib.ListN.{length, drop, get_or, length-drop, drop_of_length-le}
use borrow.Author.Tests.{eq-eqb, ne_eqb}
use Rattle.std.specs.Prelude.{Some, None}
use Rattle.std.specs.Slice.{IsItemAt}
use Rattle.std.proofs.Common.{Bor}
use Rattle.common.proofs.Choices.{choice, le_or_lt, within_in}
use Rattle.common.proofs.Places.{cut}
use Rattle.rules.specs.declared.Value.TheVariants.{Absolute, Relative}
use Rattle.rules.specs.Number.{Figures, figures, is_digit, digits, places, fraction, size, ValueRead, absolute, relative, value, size_of}
use Rattle.read_number.specs.declared.ValueAt.{ValueAt}
use Rattle.read_number.specs.declared.NumberAt.{NumberAt}
use Rattle.read_number.specs.Answers.{ReadAt, Took, relative_at, absolute_at}

-- ---- the byte at a place

module _ (s : List ℕ) (i : ℕ) where
  -- a byte that was got stands there
  pub got : (x : Bor ℕ) → IsItemAt s i (Some x) → (i < length s) × (x.now ≡ get_or s i 0)
  got x h = (omega arith, h.4 (omega arith) 0)

  -- none was got: it is the end of the list
  pub got_none : IsItemAt s i None → length s ≤ i
  got_none h = omega arith

  -- the byte there, and what follows
  pub cut_at : (b : ℕ) → i < length s → b ≡ get_or s i 0 → drop i s ≡ b ∷ drop (i + 1) s
  cut_at b h e = cut s i h ∙ ap (λ (x : ℕ). x ∷ drop (i + 1) s) (sym e)

-- ---- what is left does not hang on the number before

-- two choices by one test leave the same where their values do
rest_choice : (t : Bool) (f g f' g' : Figures) → f.rest ≡ f'.rest → g.rest ≡ g'.rest → (cond t f g).rest ≡ (cond t f' g').rest
rest_choice true f g f' g' p q = p
rest_choice false f g f' g' p q = q

-- behind digits
digits_rest : (m n : ℕ) (s : List ℕ) → (digits m s).rest ≡ (digits n s).rest
unfolding digits
digits_rest m n [] = refl
digits_rest m n (b ∷ s) =
    rest_choice (is_digit b) (digits (m * 10 + (b - 48)) s) (figures m (b ∷ s)) (digits (n * 10 + (b - 48)) s) (figures n (b ∷ s))
    (digits_rest (m * 10 + (b - 48)) (n * 10 + (b - 48)) s) refl

-- behind places
places_rest : (weight m n : ℕ) (s : List ℕ) → (places weight m s).rest ≡ (places weight n s).rest
unfolding places
places_rest weight m n [] = refl
places_rest weight m n (b ∷ s) =
    rest_choice (is_digit b)
    (places (weight / 10) (m + (b - 48) * weight) s) (figures m (b ∷ s)) (places (weight / 10) (n + (b - 48) * weight) s) (figures n (b ∷ s))
    (places_rest (weight / 10) (m + (b - 48) * weight) (n + (b - 48) * weight) s) refl

-- behind a point and digits
fraction_rest : (m n : ℕ) (s : List ℕ) → (fraction m s).rest ≡ (fraction n s).rest
unfolding fraction
fraction_rest m n [] = refl
fraction_rest m n (b ∷ s) =
    rest_choice (eqb b 46) (places 1000 (m * 10000) s) (figures (m * 10000) (b ∷ s)) (places 1000 (n * 10000) s) (figures (n * 10000) (b ∷ s))
    (places_rest 1000 (m * 10000) (n * 10000) s) refl

-- ---- how far past 32,767 a number is does not matter

-- digits make a number no smaller
digits_grow : (n : ℕ) (s : List ℕ) → n ≤ (digits n s).number
unfolding digits
digits_grow n [] = omega arith
digits_grow n (b ∷ s) =
    choice (λ (f : Figures). n ≤ f.number) (is_digit b) (let h = digits_grow (n * 10 + (b - 48)) s in omega arith) (omega arith)

-- digits behind a number held at 32,768
digits_held : (n : ℕ) (s : List ℕ) → min (digits (min n 32768) s).number 32768 ≡ min (digits n s).number 32768
digits_held n s =
    ⊎_elim
    (λ h. let e : min n 32768 ≡ n = omega arith in rw e)
    (λ h. omega (arith, digits_grow n s, digits_grow (min n 32768) s))
    (le_or_lt n 32768)

-- nor do places
places_grow : (weight n : ℕ) (s : List ℕ) → n ≤ (places weight n s).number
unfolding places
places_grow weight n [] = omega arith
places_grow weight n (b ∷ s) =
    choice (λ (f : Figures). n ≤ f.number) (is_digit b)
    (let h = places_grow (weight / 10) (n + (b - 48) * weight) s in omega arith) (omega arith)

-- nor a point and digits
fraction_grow : (n : ℕ) (s : List ℕ) → n * 10000 ≤ (fraction n s).number
unfolding fraction
fraction_grow n [] = omega arith
fraction_grow n (b ∷ s) =
    choice (λ (f : Figures). n * 10000 ≤ f.number) (eqb b 46) (places_grow 1000 (n * 10000) s) (omega arith)

-- a point and digits behind a number held at 32,768
fraction_held : (n : ℕ) (s : List ℕ) → min (fraction (min n 32768) s).number 327670000 ≡ min (fraction n s).number 327670000
fraction_held n s =
    ⊎_elim
    (λ h. let e : min n 32768 ≡ n = omega arith in rw e)
    (λ h. omega (arith, fraction_grow n s, fraction_grow (min n 32768) s))
    (le_or_lt n 32768)

-- ---- digits

-- a byte of 48 to 57 is a digit
digit_in : (b : ℕ) → 48 ≤ b → b < 58 → is_digit b ≡ true
digit_in b l h = within_in 48 57 b l (omega arith)

-- a digit weighs at most nine times its weight
pub digit_weight : (b weight : ℕ) → b < 58 → (b - 48) * weight ≤ 9 * weight
digit_weight b weight h = mul-le-mul_right weight (omega arith)

-- a digit at a place goes behind the number
digits_on : (n : ℕ) (s : List ℕ) (i b : ℕ) → i < length s → b ≡ get_or s i 0 → is_digit b ≡ true → digits n (drop i s) ≡ digits (n * 10 + (b - 48)) (drop (i + 1) s)
unfolding digits
digits_on n s i b h e t = rw (cut_at s i b h e, t)

-- a place behind the point is added by its weight
places_on : (weight n : ℕ) (s : List ℕ) (i b : ℕ) → i < length s → b ≡ get_or s i 0 → is_digit b ≡ true
    → places weight n (drop i s) ≡ places (weight / 10) (n + (b - 48) * weight) (drop (i + 1) s)
unfolding places
places_on weight n s i b h e t = rw (cut_at s i b h e, t)

-- the loop over digits: what is left, behind the number so far, makes the whole number
pub record Counting (s : List ℕ) (at n i : ℕ) : Type 0 where
  pub on : at ≤ i
  pub inside : i ≤ max at (length s)
  pub small : n ≤ 32768
  pub number : min (digits 0 (drop at s)).number 32768 ≡ min (digits n (drop i s)).number 32768
  pub rest : (digits 0 (drop at s)).rest ≡ (digits n (drop i s)).rest

module _ (s : List ℕ) (at n i : ℕ) (inv : Counting s at n i) where
  -- one more digit
  pub counting_again : (r b : ℕ) → i < length s → b ≡ get_or s i 0 → 48 ≤ b → b < 58 → r ≡ min (n * 10 + (b - 48)) 32768 → Counting s at r (i + 1)
  counting_again r b h g lo hi e =
      let t : is_digit b ≡ true = digit_in b lo hi in
      let m : ℕ = n * 10 + (b - 48) in
      let q : digits n (drop i s) ≡ digits m (drop (i + 1) s) = digits_on n s i b h g t in
      record {
        on = let o = inv.on in omega arith;
        inside = let o = inv.inside in omega arith;
        small = omega arith;
        number = inv.number ∙ ap (λ (f : Figures). min f.number 32768) q ∙ sym (rw e (digits_held m (drop (i + 1) s)));
        rest = inv.rest ∙ ap (λ (f : Figures). f.rest) q ∙ digits_rest m r (drop (i + 1) s);
      }

  -- what is left begins with no digit
  counting_done : digits n (drop i s) ≡ figures n (drop i s) → Took s at (digits 0 (drop at s)) 32768 (record { number = n; next = i })
  counting_done q =
      let a = inv.number in
      let b = inv.small in
      let d : (digits n (drop i s)).number ≡ n = ap (λ (f : Figures). f.number) q in
      record { is = omega arith; left = sym (inv.rest ∙ ap (λ (f : Figures). f.rest) q); on = inv.on; inside = inv.inside }

  -- no digit follows
  pub counting_stop : (b : ℕ) → i < length s → b ≡ get_or s i 0 → is_digit b ≡ false → Took s at (digits 0 (drop at s)) 32768 (record { number = n; next = i })
  counting_stop b h g t = counting_done (unfold digits in rw (cut_at s i b h g, t))

  -- the end of the list
  pub counting_end : length s ≤ i → Took s at (digits 0 (drop at s)) 32768 (record { number = n; next = i })
  counting_end h = counting_done (unfold digits in rw (drop_of_length-le s h))

-- ---- places behind a point

-- the loop over places: what is left, behind the size so far, makes the whole size
pub record Placing (s : List ℕ) (at n sum weight i : ℕ) : Type 0 where
  pub on : at ≤ i
  pub inside : i ≤ max at (length s)
  pub space : sum + 10 * weight ≤ n + 10000
  pub same : places 1000 n (drop at s) ≡ places weight sum (drop i s)

module _ (s : List ℕ) (at n sum weight i : ℕ) (inv : Placing s at n sum weight i) where
  -- one more place
  pub placing_again : (r b : ℕ) → i < length s → b ≡ get_or s i 0 → 48 ≤ b → b < 58 → r ≡ sum + (b - 48) * weight → Placing s at n r (weight / 10) (i + 1)
  placing_again r b h g lo hi e =
      let t : is_digit b ≡ true = digit_in b lo hi in
      let w = digit_weight b weight hi in
      let q : places weight sum (drop i s) ≡ places (weight / 10) (sum + (b - 48) * weight) (drop (i + 1) s) = places_on weight sum s i b h g t in
      record {
        on = let o = inv.on in omega arith;
        inside = let o = inv.inside in omega arith;
        space = let o = inv.space in omega arith;
        same = inv.same ∙ rw e q;
      }

  -- what is left begins with no digit
  placing_done : (r : ℕ) → r ≡ min sum 327670000 → places weight sum (drop i s) ≡ figures sum (drop i s)
      → Took s at (places 1000 n (drop at s)) 327670000 (record { number = r; next = i })
  placing_done r e q =
      rw (inv.same, q) (record { is = e; left = refl; on = inv.on; inside = inv.inside })

  -- no digit follows
  pub placing_stop : (r b : ℕ) → r ≡ min sum 327670000 → i < length s → b ≡ get_or s i 0 → is_digit b ≡ false
      → Took s at (places 1000 n (drop at s)) 327670000 (record { number = r; next = i })
  placing_stop r b e h g t = placing_done r e (unfold places in rw (cut_at s i b h g, t))

  -- the end of the list
  pub placing_end : (r : ℕ) → r ≡ min sum 327670000 → length s ≤ i
      → Took s at (places 1000 n (drop at s)) 327670000 (record { number = r; next = i })
  placing_end r e h = placing_done r e (unfold places in rw (drop_of_length-le s h))

module _ (s : List ℕ) (at : ℕ) where
  -- ---- the point
  -- a point, and digits behind it
  pub fraction_point : (n b : ℕ) {r : NumberAt} → at < length s → b ≡ get_or s at 0 → b ≡ 46 → Took s (at + 1) (places 1000 (n * 10000) (drop (at + 1) s)) 327670000 r
      → Took s at (fraction n (drop at s)) 327670000 r
  fraction_point n b h g k t =
      let q : fraction n (drop at s) ≡ places 1000 (n * 10000) (drop (at + 1) s) = unfold fraction in rw (cut_at s at b h g, eq-eqb b 46 k) in
      rw q (record { is = t.is; left = t.left; on = let o = t.on in omega arith; inside = let o = t.inside in omega arith })

  -- no point
  fraction_none : (n r : ℕ) → r ≡ min (n * 10000) 327670000 → fraction n (drop at s) ≡ figures (n * 10000) (drop at s)
      → Took s at (fraction n (drop at s)) 327670000 (record { number = r; next = at })
  fraction_none n r e q = rw q (record { is = e; left = refl; on = omega arith; inside = omega arith })

  -- another byte
  pub fraction_other : (n r b : ℕ) → at < length s → b ≡ get_or s at 0 → (b ≡ 46 → ⊥) → r ≡ min (n * 10000) 327670000
      → Took s at (fraction n (drop at s)) 327670000 (record { number = r; next = at })
  fraction_other n r b h g k e = fraction_none n r e (unfold fraction in rw (cut_at s at b h g, ne_eqb b 46 k))

  -- the end of the list
  pub fraction_end : (n r : ℕ) → length s ≤ at → r ≡ min (n * 10000) 327670000
      → Took s at (fraction n (drop at s)) 327670000 (record { number = r; next = at })
  fraction_end n r h e = fraction_none n r e (unfold fraction in rw (drop_of_length-le s h))

  -- ---- the size: its whole number may be held at 32,768
  pub size_took : {d r : NumberAt} → Took s at (digits 0 (drop at s)) 32768 d → Took s d.next (fraction d.number (drop d.next s)) 327670000 r
      → Took s at (size (drop at s)) 327670000 r
  unfolding size
  size_took {d} {r} p q =
      let f : Figures = digits 0 (drop at s) in
      record {
        is = q.is ∙ rw (p.left, p.is) (fraction_held f.number f.rest);
        left = q.left ∙ rw p.left (fraction_rest d.number f.number f.rest);
        on = let o = p.on in let k = q.on in omega arith;
        inside = let o = p.inside in let k = q.inside in omega arith;
      }

  -- ---- the value
  -- what the rules read, and the place where they leave off
  read_as : {r : ValueAt} (w : ValueRead) → value (drop at s) ≡ w → r.value ≡ w.value → drop r.next s ≡ w.rest
      → at ≤ r.next → r.next ≤ max at (length s) → size_of r.value ≤ 327670000 → ReadAt s at r
  read_as {r} w e v l on inside small =
      let k : drop r.next s ≡ (value (drop at s)).rest = rw e l in
      record {
        is = rw e v;
        next = omega (arith, length-drop at s, length-drop r.next s, ap length k);
        left = λ h. k;
        on = on;
        inside = inside;
        small = small;
      }

  module _ {n : NumberAt} {r : ValueAt} (h : at < length s) (t : Took s (at + 1) (size (drop (at + 1) s)) 327670000 n) where
    -- a sign, and a size behind it
    signed : (negative : Bool) → r ≡ relative_at negative n → value (drop at s) ≡ relative negative (size (drop (at + 1) s)) → ReadAt s at r
    unfolding relative
    signed negative f e =
        rw f
        (read_as (relative negative (size (drop (at + 1) s))) e (ap (Relative negative) t.is) t.left
        (let o = t.on in omega arith) (let o = t.inside in omega arith) (let o = t.is in omega arith))

    -- a plus
    pub value_plus : (b : ℕ) → b ≡ get_or s at 0 → b ≡ 43 → r ≡ relative_at false n → ReadAt s at r
    value_plus b g k f = signed false f (unfold value in rw (cut_at s at b h g, eq-eqb b 43 k))

    -- a minus
    pub value_minus : (b : ℕ) → b ≡ get_or s at 0 → b ≡ 45 → r ≡ relative_at true n → ReadAt s at r
    value_minus b g k f = signed true f (unfold value in rw (cut_at s at b h g, ne_eqb b 43 (λ (e : b ≡ 43). omega arith), eq-eqb b 45 k))

  module _ {n : NumberAt} {r : ValueAt} (t : Took s at (size (drop at s)) 327670000 n) (f : r ≡ absolute_at n) where
    -- a size alone
    unsigned : value (drop at s) ≡ absolute (size (drop at s)) → ReadAt s at r
    unfolding absolute
    unsigned e =
        rw f (read_as (absolute (size (drop at s))) e (ap Absolute t.is) t.left t.on t.inside (let o = t.is in omega arith))

    -- no sign
    pub value_none : (b : ℕ) → at < length s → b ≡ get_or s at 0 → (b ≡ 43 → ⊥) → (b ≡ 45 → ⊥) → ReadAt s at r
    value_none b h g j k = unsigned (unfold value in rw (cut_at s at b h g, ne_eqb b 43 j, ne_eqb b 45 k))

    -- the end of the list
    pub value_end : length s ≤ at → ReadAt s at r
    value_end h = unsigned (unfold value in rw (drop_of_length-le s h))
