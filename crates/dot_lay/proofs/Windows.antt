-- A source of one dot to a bit, shifted to where it begins and or-ed into a part of a page row: windows of two bytes. Assumes nothing.
use mathlib.Core.Path.{◌≡◌, refl, sym, ◌∙◌}
use mathlib.Core.List.{List}
use mathlib.Core.Logic.{⊎_elim}
use Prim.Native.Nat.{ℕ, zero, suc, ◌+◌, ◌-◌, ◌*◌, ◌/◌, ◌%◌, ◌^◌, ◌≤◌, ◌<◌, min}
use native.Mathlib.Omega.{arith}
use native.Mathlib.Nat.{not-suc-le-zero}
use lib.Bits.{bit_or, or_zero_r}
use lib.ListN.{length, get_or, set, length-set, get_or-eq_default}
use lib.Pow.{shr_le}
use lib.Seq.{get_or-set_same, get_or-set_other, ext_get_or}
use Rattle.common.specs.Bits.{bit, dot}
use Rattle.common.proofs.Bits.{dot_at, byte_of_cong, byte_of-bit, shifted_cur, shifted_carry}
use Rattle.common.proofs.Choices.{le_or_lt}
use Rattle.rules.specs.Dots.{ink, inked_line}
use Rattle.dot_lay.specs.Laid.{ink_byte, prior, window_at, Shifted}
use Rattle.theorems.proofs.Inks.{bit_zero, ink_at, no_ink, line_length, line_at}
use Rattle.dot_lay.proofs.Lines.{or_ink}

-- ---- windows of two bytes

-- the byte before
prior_at : (l : List ℕ) (j : ℕ) → 0 < j → prior l j ≡ get_or l (j - 1) 0
unfolding prior
prior_at l zero h = absurd (not-suc-le-zero h)
prior_at l (suc j) h = let e : suc j - 1 ≡ j = omega arith in rw e

-- zeros show zeros
window_zero : (l : List ℕ) (s j : ℕ) → prior l j ≡ 0 → get_or l j 0 ≡ 0 → window_at l s j ≡ 0
unfolding window_at
window_zero l s j p q = rw (p, q) (omega (arith, shr_le 0 s))

module _ (src : List ℕ) (small : (i : ℕ) → get_or src i 0 < 256) (from : ℕ) where
  -- one dot to a bit
  ink_one : (x d : ℕ) → x ≡ from + d → ink src 1 from x ≡ dot src d
  ink_one x d h = let e : d / 1 ≡ d = omega arith in ink_at src 1 from x d h ∙ rw e

  window_right : (n i : ℕ) → i < 8 → from % 8 ≤ i → bit (window_at src (from % 8) n) i ≡ ink src 1 from (8 * (from / 8 + n) + i)
  unfolding window_at
  window_right n i k l =
      shifted_cur (prior src n) (get_or src n 0) (small n) (from % 8) i k l
      ∙ sym (dot_at src n (i - from % 8) (omega arith))
      ∙ sym (ink_one (8 * (from / 8 + n) + i) (8 * n + (i - from % 8)) (omega arith))

  window_left : (n i : ℕ) → i < from % 8 → bit (window_at src (from % 8) n) i ≡ ink src 1 from (8 * (from / 8 + n) + i)
  unfolding window_at prior
  window_left zero i l =
      shifted_carry 0 (get_or src 0 0) (small 0) (from % 8) i (omega arith) l
      ∙ bit_zero ((8 + i) - from % 8) ∙ sym (no_ink src 1 from (8 * (from / 8 + 0) + i) (omega arith))
  window_left (suc n) i l =
      shifted_carry (get_or src n 0) (get_or src (suc n) 0) (small (suc n)) (from % 8) i (omega arith) l
      ∙ sym (dot_at src n ((8 + i) - from % 8) (omega arith))
      ∙ sym (ink_one (8 * (from / 8 + suc n) + i) (8 * n + ((8 + i) - from % 8)) (omega arith))

  -- a window shows the ink of its byte
  pub window_ink : (n : ℕ) → window_at src (from % 8) n ≡ ink_byte src 1 from (from / 8 + n)
  unfolding ink_byte
  window_ink n =
      sym (byte_of-bit (window_at src (from % 8) n) (unfold window_at in omega arith))
      ∙ byte_of_cong (bit (window_at src (from % 8) n)) (λ i. ink src 1 from (8 * (from / 8 + n) + i))
      (λ i h. ⊎_elim (λ l. window_right n i h l) (λ l. window_left n i l) (le_or_lt (from % 8) i))

  -- unshifted, the byte itself does
  pub plain_ink : from % 8 ≡ 0 → (n : ℕ) → get_or src n 0 ≡ ink_byte src 1 from (from / 8 + n)
  plain_ink z n = unfold window_at in (let e : (prior src n * 256 + get_or src n 0) / 2 ^ 0 % 256 ≡ get_or src n 0 = omega (arith, small n) in sym e ∙ rw z at (window_ink n))

  -- a source or-ed in, shifted, is a page row painted
  pub shifted_line : (part after : List ℕ) (s : ℕ) → s ≡ from % 8 → ((i : ℕ) → get_or part i 0 < 256) → Shifted part src s after → after ≡ inked_line src 1 from (from / 8) part
  shifted_line part after s e t v =
      ext_get_or 0 after (inked_line src 1 from (from / 8) part) (v.same ∙ sym (line_length src 1 from (from / 8) part))
      (λ i h.
      let k : i < length part = omega (arith, v.same) in
      v.is i k ∙ or_ink src 1 from (from / 8 + i) (get_or part i 0) (window_at src s i) (t i) (rw e (window_ink i)) ∙ sym (line_at src 1 from (from / 8) part i k))

-- ---- a source or-ed in, shifted, byte by byte

-- the bytes from k up to j are or-ed
pub record Shifting (before src : List ℕ) (s : ℕ) (part : List ℕ) (k j : ℕ) : Type 0 where
  pub same : length part ≡ length before
  pub front : (m : ℕ) → m < k → get_or part m 0 ≡ get_or before m 0
  pub done : (m : ℕ) → k ≤ m → m < j → get_or part m 0 ≡ bit_or (get_or before m 0) (window_at src s m)
  pub rest : (m : ℕ) → j ≤ m → get_or part m 0 ≡ get_or before m 0

-- at first none is
pub shifting_starts : (before src : List ℕ) (s : ℕ) → Shifting before src s before 1 1
shifting_starts before src s = record { same = refl; front = λ m l. refl; done = λ m l h. absurd (omega arith); rest = λ m l. refl }

-- one byte more is
pub shifting_next : (before src : List ℕ) (s : ℕ) (part : List ℕ) (k j w : ℕ) → Shifting before src s part k j → k ≤ j → 0 < j → j < length part
    → w ≡ (get_or src (j - 1) 0 * 256 + get_or src j 0) / 2 ^ s % 256 → Shifting before src s (set part j (bit_or (get_or part j 0) w)) k (j + 1)
unfolding window_at
shifting_next before src s part k j w v q z h e =
    record {
      same = length-set part j _ ∙ v.same;
      front = λ m l. rw (get_or-set_other part j m _ 0 (λ y. omega arith)) (v.front m l);
      done = λ m g l.
          ⊎_elim
          (λ (o : j ≤ m). let d : m ≡ j = omega arith in rw (d, get_or-set_same part j _ 0 h, v.rest j (omega arith), e, prior_at src j z))
          (λ (o : m < j). rw (get_or-set_other part j m _ 0 (λ y. omega arith)) (v.done m g o))
          (le_or_lt j m);
      rest = λ m l. rw (get_or-set_other part j m _ 0 (λ y. omega arith)) (v.rest m (omega arith));
    }

-- the first byte
pub shifting_first : (before src : List ℕ) (s : ℕ) (part : List ℕ) (j w : ℕ) → Shifting before src s part 1 j → 1 ≤ j → 0 < length part
    → w ≡ (0 * 256 + get_or src 0 0) / 2 ^ s % 256 → Shifting before src s (set part 0 (bit_or (get_or part 0 0) w)) 0 j
unfolding window_at prior
shifting_first before src s part j w v q h e =
    record {
      same = length-set part 0 _ ∙ v.same;
      front = λ m l. absurd (omega arith);
      done = λ m g l.
          ⊎_elim
          (λ (o : 1 ≤ m). rw (get_or-set_other part 0 m _ 0 (λ y. omega arith)) (v.done m o l))
          (λ (o : m < 1). let d : m ≡ 0 = omega arith in rw (d, get_or-set_same part 0 _ 0 h, v.front 0 (omega arith), e))
          (le_or_lt 1 m);
      rest = λ m l. rw (get_or-set_other part 0 m _ 0 (λ y. omega arith)) (v.rest m l);
    }

-- the part ends there
pub shifting_whole : (before src : List ℕ) (s : ℕ) (part : List ℕ) (j : ℕ) → Shifting before src s part 0 j → length part ≤ j → Shifted before src s part
shifting_whole before src s part j v h = record { same = v.same; is = λ m l. v.done m (omega arith) (omega (arith, v.same)) }

-- the source ended before
pub shifting_past : (before src : List ℕ) (s : ℕ) (part : List ℕ) (j w : ℕ) → Shifting before src s part 0 j → 0 < j → j < length part → length src ≤ j
    → w ≡ (get_or src (j - 1) 0 * 256 + 0) / 2 ^ s % 256 → Shifted before src s (set part j (bit_or (get_or part j 0) w))
shifting_past before src s part j w u z h k e =
    let d : get_or src j 0 ≡ 0 = get_or-eq_default src 0 k in
    let v = shifting_next before src s part 0 j w u (omega arith) z h (rw d e) in
    record {
      same = v.same;
      is = λ m l.
          ⊎_elim
          (λ (o : j + 1 ≤ m).
          let p : get_or src (m - 1) 0 ≡ 0 = get_or-eq_default src 0 (omega arith) in
          let q : window_at src s m ≡ 0 = window_zero src s m (prior_at src m (omega arith) ∙ p) (get_or-eq_default src 0 (omega arith)) in
          rw (q, or_zero_r) (v.rest m o))
          (v.done m (omega arith)) (le_or_lt (j + 1) m);
    }

-- all are or-ed, the first byte last, and the part ends with the source or before it
pub shifted_whole : (before src : List ℕ) (s : ℕ) (part : List ℕ) (j n w : ℕ) → Shifting before src s part 1 j → n ≡ min (length before) (length src) → 1 ≤ j → j ≤ n → n ≤ j
    → w ≡ (0 * 256 + get_or src 0 0) / 2 ^ s % 256 → length (set part 0 (bit_or (get_or part 0 0) w)) ≤ n → Shifted before src s (set part 0 (bit_or (get_or part 0 0) w))
shifted_whole before src s part j n w v e a b c f h =
    shifting_whole before src s _ j (shifting_first before src s part j w v a (omega (arith, v.same)) f) (omega arith)

-- the part goes on
pub shifted_past : (before src : List ℕ) (s : ℕ) (part : List ℕ) (j n w u : ℕ) → Shifting before src s part 1 j → n ≡ min (length before) (length src) → 1 ≤ j → j ≤ n → n ≤ j
    → w ≡ (0 * 256 + get_or src 0 0) / 2 ^ s % 256 → n < length (set part 0 (bit_or (get_or part 0 0) w)) → u ≡ (get_or src (n - 1) 0 * 256 + 0) / 2 ^ s % 256
    → Shifted before src s (set (set part 0 (bit_or (get_or part 0 0) w)) n (bit_or (get_or (set part 0 (bit_or (get_or part 0 0) w)) n 0) u))
shifted_past before src s part j n w u v e a b c f h g =
    let d : n ≡ j = omega arith in
    let x = shifting_first before src s part j w v a (omega (arith, v.same)) f in
    let y : Shifting before src s (set part 0 (bit_or (get_or part 0 0) w)) 0 n = rw d x in
    shifting_past before src s _ n u y (omega arith) h (omega (arith, y.same)) g

-- no part, or no source
pub shifting_none : (before src : List ℕ) (s n : ℕ) → n ≡ min (length before) (length src) → n ≡ 0 → Shifted before src s before
unfolding prior
shifting_none before src s n e z =
    record {
      same = refl;
      is = λ m l.
          let q : (k : ℕ) → get_or src k 0 ≡ 0 = λ k. get_or-eq_default src 0 (omega arith) in
          let w : window_at src s m ≡ 0 = window_zero src s m (none m q) (q m) in
          rw (w, or_zero_r);
    }
  where
    none : (m : ℕ) → ((k : ℕ) → get_or src k 0 ≡ 0) → prior src m ≡ 0
    none zero q = refl
    none (suc m) q = q m
