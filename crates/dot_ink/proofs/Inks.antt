-- A row's last dots, and its squares, made by bytes. Assumes nothing.
use mathlib.Core.Path.{◌≡◌, refl, sym, ap, ◌∙◌}
use mathlib.Core.Bool.{Bool, true}
use mathlib.Core.List.{List, [], ◌∷◌, ◌++◌}
use mathlib.Core.Logic.{⊎_elim}
use Prim.Native.Nat.{ℕ, zero, suc, ◌+◌, ◌-◌, ◌*◌, ◌/◌, ◌%◌, ◌≤◌, ◌<◌}
use native.Mathlib.Omega.{arith}
use native.Mathlib.Nat.{mul_assoc, mul_comm, mul-add, mul-one, mul-add-div_right, div-lt_iff_lt-mul}
use lib.Bits.{bit_or, or_add_and, and_le_l, and_le_r}
use lib.Dec.{T, eqb, eqb→eq}
use lib.ListN.{length, get_or, set, take, drop, length-take, get_or-append, get_or-eq_default}
use lib.Seq.{take_all, take-take, length-take-le, get_or-take, get_or-drop, ext_get_or}
use borrow.Author.Tests.{eqb-true}
use Rattle.std.specs.List.{fold}
use Rattle.std.proofs.lemmas.List.{get_or-append_right}
use Rattle.common.specs.Bits.{bit, dot, byte_of}
use Rattle.common.proofs.Bits.{dot_at, dot_lt, byte_of_cong, bit-byte_of}
use Rattle.common.proofs.Choices.{le_or_lt}
use Rattle.common.proofs.Parts.{put_back, back_length}
use Rattle.common.proofs.Tests.{all_below, below}
use Rattle.dot_ink.specs.Ink.{Blank, Used, spread_of, Spread, square_at, Squared, OneSquared}

-- ---- the row's last nonzero byte

-- the whole row is used
pub used_all : (row : List ℕ) → Used row (length row)
used_all row = record { inside = omega arith; rest = λ i h. get_or-eq_default row 0 h }

-- two numbers or-ed are zero only if both are
or_zeros : (a b : ℕ) → bit_or a b ≡ 0 → (a ≡ 0) × (b ≡ 0)
or_zeros a b h = (omega (arith, or_add_and a b, and_le_r a b), omega (arith, or_add_and a b, and_le_l a b))

-- a zero before zeros
zeros_cons : (b : ℕ) (s : List ℕ) → b ≡ 0 → ((i : ℕ) → get_or s i 0 ≡ 0) → (i : ℕ) → get_or (b ∷ s) i 0 ≡ 0
zeros_cons b s e h zero = e
zeros_cons b s e h (suc i) = h i

-- bytes or-ed to zero are all zero
ored_zeros : (a : ℕ) (s : List ℕ) → fold bit_or a s ≡ 0 → (a ≡ 0) × ((i : ℕ) → get_or s i 0 ≡ 0)
ored_zeros a [] h = (h, λ i. get_or-eq_default {A = ℕ} [] 0 {n = i} (omega arith))
ored_zeros a (b ∷ s) h =
    let r = ored_zeros (bit_or a b) s h in
    let o = or_zeros a b r.0 in
    (o.0, zeros_cons b s o.1 r.1)

-- the test of what they are or-ed to
pub blank_ored : (n : ℕ) (s : List ℕ) (f : ℕ) → f ≡ fold bit_or 0 s → Blank n s 0 (eqb f 0)
blank_ored n s f e = record { zeros = λ t i l q. (ored_zeros 0 s (sym e ∙ eqb-true f 0 t)).1 i }

-- the front of a row, behind which it has no ink
pub record Front (row front : List ℕ) : Type 0 where
  pub is : front ≡ take (length front) row
  pub used : Used row (length front)

-- the whole row
pub front_whole : (row : List ℕ) → Front row row
front_whole row = record { is = sym (take_all (length row) row (omega arith)); used = used_all row }

-- the last n bytes are zero: they are not used
pub front_less : (n : ℕ) (row left front block : List ℕ) (r : Bool) → Front row left → front ≡ take (length left - n) left → block ≡ drop (length left - n) left
    → length front + n ≡ length left → Blank n block 0 r → r ≡ true → Front row front
front_less n row left front block r v e b l z t =
    let k : length left - n ≡ length front = omega arith in
    let f : front ≡ take (length front) left = rw k at e in
    let d : block ≡ drop (length front) left = rw k at b in
    let c : length front ≤ length left = omega arith in
    record {
      is = f ∙ ap (take (length front)) v.is ∙ take-take (length front) (length left) row c;
      used =
          record {
            inside = omega (arith, v.used.inside);
            rest = λ i h.
                ⊎_elim (v.used.rest i)
                (λ (q : i < length left).
                let m : length front + (i - length front) ≡ i = omega arith in
                let x : get_or left i 0 ≡ 0 = rw (← m, ← get_or-drop (length front) left (i - length front) 0, ← d) (z.zeros t (i - length front) (omega arith) (omega arith)) in
                sym (ap (λ y. get_or y i 0) v.is ∙ get_or-take (length left) row i 0 q) ∙ x)
                (le_or_lt (length left) i);
          };
    }

-- what is used of the used front of a row
pub used_again : (row : List ℕ) (e r : ℕ) → Used row e → Used (take e row) r → Used row r
used_again row e r u v =
    let l = length-take e row in
    record {
      inside = omega (arith, l, v.inside);
      rest = λ i h. ⊎_elim (u.rest i) (λ (q : i < e). sym (get_or-take e row i 0 q) ∙ v.rest i h) (le_or_lt e i);
    }

-- ---- a byte of squares out of a byte of the row

-- a rule that passes the test at every number below n
pub spread_by : (f : ℕ → ℕ) (dots phase n : ℕ) → T (all_below (λ b. eqb (f b) (spread_of dots b phase)) n) → (b : ℕ) → b < n → f b ≡ spread_of dots b phase
spread_by f dots phase n t b h = eqb→eq (f b) (spread_of dots b phase) (below (λ b. eqb (f b) (spread_of dots b phase)) n t b h)

-- two rules that do at every byte
same_by : (f g : ℕ → ℕ) → T (all_below (λ b. eqb (f b) (g b)) 256) → (b : ℕ) → b < 256 → f b ≡ g b
same_by f g t b h = eqb→eq (f b) (g b) (below (λ b. eqb (f b) (g b)) 256 t b h)

-- it stands where the byte's squares stand
square_spread : (row : List ℕ) (dots m phase : ℕ) → phase < dots → spread_of dots (get_or row m 0) phase ≡ square_at row dots (m * dots + phase)
unfolding spread_of square_at
square_spread row dots m phase h =
    byte_of_cong (λ i. bit (get_or row m 0) ((8 * phase + i) / dots)) (λ i. dot row ((8 * (m * dots + phase) + i) / dots))
    (λ i l.
    let z : 0 < dots = omega arith in
    let e : 8 * (m * dots + phase) + i ≡ 8 * m * dots + (8 * phase + i) = omega (arith, mul_assoc 8 m dots) in
    let t : (8 * phase + i) / dots < 8 = (div-lt_iff_lt-mul z).1 (omega arith) in
    rw (e, mul-add-div_right z (8 * m) (8 * phase + i)) (sym (dot_at row m ((8 * phase + i) / dots) t)))

-- the dots of squares are the row's
pub square_dot : (row : List ℕ) (dots m i : ℕ) → i < 8 → bit (square_at row dots m) i ≡ dot row ((8 * m + i) / dots)
unfolding square_at
square_dot row dots m i h = bit-byte_of (λ i. dot row ((8 * m + i) / dots)) (λ i. dot_lt row ((8 * m + i) / dots)) i h

-- the first m bytes of squares are made, and the others are as they were
pub record Making (row : List ℕ) (dots : ℕ) (before : List ℕ) (m : ℕ) (list : List ℕ) : Type 0 where
  pub same : length list ≡ length before
  pub done : (j : ℕ) → j < m → get_or list j 0 ≡ square_at row dots j
  pub rest : (j : ℕ) → m ≤ j → get_or list j 0 ≡ get_or before j 0

-- at first none
pub making_starts : (row : List ℕ) (dots m : ℕ) (list : List ℕ) → m ≡ 0 → Making row dots list m list
making_starts row dots m list e = record { same = refl; done = λ j l. absurd (omega arith); rest = λ j l. refl }

-- what stands in a list when a part of it has come back
module _ (list new : List ℕ) (a k : ℕ) (fits : a + k ≤ length list) (len : length new ≡ k) where
  front_length : length (take a list) ≡ a
  front_length = length-take-le a list (omega arith)

  -- before the part
  back_left : (j : ℕ) → j < a → get_or (put_back list a k new) j 0 ≡ get_or list j 0
  back_left j h = get_or-append (take a list) (new ++ drop k (drop a list)) 0 j (omega (arith, front_length)) ∙ get_or-take a list j 0 h

  -- in it
  back_inside : (j : ℕ) → a ≤ j → j < a + k → get_or (put_back list a k new) j 0 ≡ get_or new (j - a) 0
  back_inside j h l =
      get_or-append_right (take a list) (new ++ drop k (drop a list)) a j 0 front_length h
      ∙ get_or-append new (drop k (drop a list)) 0 (j - a) (omega (arith, len))

  -- behind it
  back_right : (j : ℕ) → a + k ≤ j → get_or (put_back list a k new) j 0 ≡ get_or list j 0
  back_right j h =
      let e : a + (k + ((j - a) - k)) ≡ j = omega arith in
      get_or-append_right (take a list) (new ++ drop k (drop a list)) a j 0 front_length (omega arith)
      ∙ get_or-append_right new (drop k (drop a list)) k (j - a) 0 len (omega arith)
      ∙ get_or-drop k (drop a list) ((j - a) - k) 0
      ∙ get_or-drop a list (k + ((j - a) - k)) 0
      ∙ ap (λ m. get_or list m 0) e

-- those of one byte more
pub making_more : (row before list new : List ℕ) (dots i k : ℕ) → Making row dots before (dots * i) list → dots * i + dots ≤ length before → k ≡ dots
    → Spread dots (get_or row i 0) new → Making row dots before (dots * (i + 1)) (put_back list (dots * i) k new)
making_more row before list new dots i k d h e s =
    let n : length new ≡ k = s.same ∙ sym e in
    let f : dots * i + k ≤ length list = omega (arith, d.same) in
    let m : dots * (i + 1) ≡ dots * i + dots = mul-add dots i 1 ∙ ap (λ z. dots * i + z) (mul-one dots) in
    record {
      same = back_length list new (dots * i) k f n ∙ d.same;
      done = λ j l.
          ⊎_elim
          (λ (q : dots * i ≤ j).
          let c : i * dots + (j - dots * i) ≡ j = omega (arith, mul_comm i dots) in
          let p : j - dots * i < dots = omega (arith, m) in
          back_inside list new (dots * i) k f n j q (omega (arith, m))
          ∙ s.is (j - dots * i) p ∙ square_spread row dots i (j - dots * i) p ∙ ap (square_at row dots) c)
          (λ (q : j < dots * i). back_left list new (dots * i) k f n j q ∙ d.done j q)
          (le_or_lt (dots * i) j);
      rest = λ j l. back_right list new (dots * i) k f n j (omega (arith, m)) ∙ d.rest j (omega (arith, m));
    }

-- two bytes written one by one
two_set : (l : List ℕ) (x y : ℕ) → length l ≡ 2 → set (set l 0 x) 1 y ≡ x ∷ y ∷ []
two_set [] x y h = absurd (omega arith)
two_set (a ∷ []) x y h = absurd (omega arith)
two_set (a ∷ b ∷ []) x y h = refl
two_set (a ∷ b ∷ c ∷ l) x y h = absurd (omega arith)

-- three
three_set : (l : List ℕ) (x y z : ℕ) → length l ≡ 3 → set (set (set l 0 x) 1 y) 2 z ≡ x ∷ y ∷ z ∷ []
three_set [] x y z h = absurd (omega arith)
three_set (a ∷ []) x y z h = absurd (omega arith)
three_set (a ∷ b ∷ []) x y z h = absurd (omega arith)
three_set (a ∷ b ∷ c ∷ []) x y z h = refl
three_set (a ∷ b ∷ c ∷ d ∷ l) x y z h = absurd (omega arith)

-- four
four_set : (l : List ℕ) (x y z w : ℕ) → length l ≡ 4 → set (set (set (set l 0 x) 1 y) 2 z) 3 w ≡ x ∷ y ∷ z ∷ w ∷ []
four_set [] x y z w h = absurd (omega arith)
four_set (a ∷ []) x y z w h = absurd (omega arith)
four_set (a ∷ b ∷ []) x y z w h = absurd (omega arith)
four_set (a ∷ b ∷ c ∷ []) x y z w h = absurd (omega arith)
four_set (a ∷ b ∷ c ∷ d ∷ []) x y z w h = refl
four_set (a ∷ b ∷ c ∷ d ∷ e ∷ l) x y z w h = absurd (omega arith)

-- the two of a byte
pub spread_two : (l : List ℕ) (b x y : ℕ) → length l ≡ 2 → b < 256 → x ≡ spread_of 2 (b / 16) 1 → y ≡ spread_of 2 (b % 16) 1 → Spread 2 b (set (set l 0 x) 1 y)
spread_two l b x y n s f g = rw (two_set l x y n) (record { same = refl; is = at })
  where
    at : (k : ℕ) → k < 2 → get_or (x ∷ y ∷ []) k 0 ≡ spread_of 2 b k
    at zero h = f ∙ same_by (λ b. spread_of 2 (b / 16) 1) (λ b. spread_of 2 b 0) (unfold spread_of in unfold byte_of in unfold bit in tt) b s
    at (suc zero) h = g ∙ same_by (λ b. spread_of 2 (b % 16) 1) (λ b. spread_of 2 b 1) (unfold spread_of in unfold byte_of in unfold bit in tt) b s
    at (suc (suc k)) h = absurd (omega arith)

-- the three of a byte
pub spread_three : (l : List ℕ) (b x y z : ℕ) → length l ≡ 3 → x ≡ spread_of 3 b 0 → y ≡ spread_of 3 b 1 → z ≡ spread_of 3 b 2 → Spread 3 b (set (set (set l 0 x) 1 y) 2 z)
spread_three l b x y z n f g k = rw (three_set l x y z n) (record { same = refl; is = at })
  where
    at : (j : ℕ) → j < 3 → get_or (x ∷ y ∷ z ∷ []) j 0 ≡ spread_of 3 b j
    at zero h = f
    at (suc zero) h = g
    at (suc (suc zero)) h = k
    at (suc (suc (suc j))) h = absurd (omega arith)

-- the four of a byte
pub spread_four : (l : List ℕ) (b x y z w : ℕ) → length l ≡ 4 → b < 256 → x ≡ spread_of 4 (b / 64) 3 → y ≡ spread_of 4 (b / 16 % 4) 3 → z ≡ spread_of 4 (b / 4 % 4) 3
    → w ≡ spread_of 4 (b % 4) 3 → Spread 4 b (set (set (set (set l 0 x) 1 y) 2 z) 3 w)
spread_four l b x y z w n s f g k o = rw (four_set l x y z w n) (record { same = refl; is = at })
  where
    at : (j : ℕ) → j < 4 → get_or (x ∷ y ∷ z ∷ w ∷ []) j 0 ≡ spread_of 4 b j
    at zero h = f ∙ same_by (λ b. spread_of 4 (b / 64) 3) (λ b. spread_of 4 b 0) (unfold spread_of in unfold byte_of in unfold bit in tt) b s
    at (suc zero) h = g ∙ same_by (λ b. spread_of 4 (b / 16 % 4) 3) (λ b. spread_of 4 b 1) (unfold spread_of in unfold byte_of in unfold bit in tt) b s
    at (suc (suc zero)) h = k ∙ same_by (λ b. spread_of 4 (b / 4 % 4) 3) (λ b. spread_of 4 b 2) (unfold spread_of in unfold byte_of in unfold bit in tt) b s
    at (suc (suc (suc zero))) h = o ∙ same_by (λ b. spread_of 4 (b % 4) 3) (λ b. spread_of 4 b 3) (unfold spread_of in unfold byte_of in unfold bit in tt) b s
    at (suc (suc (suc (suc j)))) h = absurd (omega arith)

-- all are made
pub making_ends : (row : List ℕ) (dots n i : ℕ) (before list : List ℕ) → Making row dots before (dots * i) list → n ≡ i → Squared row dots n before list
making_ends row dots n i before list v e = rw e (record { same = v.same; is = v.done; rest = v.rest })

-- so many dots to a bit, as a test told
pub squared_told : (row : List ℕ) (dots k n : ℕ) (before list : List ℕ) → dots ≡ k → Squared row k n before list → Squared row dots n before list
squared_told row dots k n before list e v = rw e v

-- four, as it is no other number
pub squared_last : (row : List ℕ) (dots n : ℕ) (before list : List ℕ) → 2 ≤ dots → dots ≤ 4 → (dots ≡ 2 → ⊥) → (dots ≡ 3 → ⊥) → Squared row 4 n before list → Squared row dots n before list
squared_last row dots n before list h k x y = squared_told row dots 4 n before list (omega arith)

-- each of its bytes is told
pub one_squared : OneSquared
one_squared row dots n before list list' v w =
    ext_get_or 0 list list' (v.same ∙ sym w.same)
    (λ j l. ⊎_elim (λ (h : dots * n ≤ j). v.rest j h ∙ sym (w.rest j h)) (λ (h : j < dots * n). v.is j h ∙ sym (w.is j h)) (le_or_lt (dots * n) j))

-- there is room for them
pub room_told : (dots k n m : ℕ) → dots ≡ k → dots * n ≤ m → k * n ≤ m
room_told dots k n m e h = rw e at h

-- and for four
pub room_last : (dots n m : ℕ) → 2 ≤ dots → dots ≤ 4 → (dots ≡ 2 → ⊥) → (dots ≡ 3 → ⊥) → dots * n ≤ m → 4 * n ≤ m
room_last dots n m h k x y = room_told dots 4 n m (omega arith)
