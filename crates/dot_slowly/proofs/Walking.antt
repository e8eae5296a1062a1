-- A row walked dot by dot gives its ink. Assumes nothing.
use mathlib.Core.Path.{◌≡◌, refl, sym, ◌∙◌}
use mathlib.Core.Bool.{cond}
use mathlib.Core.List.{List}
use mathlib.Core.Logic.{⊎_elim}
use Prim.Native.Nat.{ℕ, zero, suc, ◌+◌, ◌-◌, ◌*◌, ◌/◌, ◌%◌, ◌^◌, ◌≤◌, ◌<◌}
use native.Mathlib.Omega.{arith}
use native.Mathlib.Nat.{suc-mul, mul-add-div_right, div-eq_of_lt, add-zero, add_assoc, mul-le-mul_left}
use native.Mathlib.Numerals.{add-one}
use lib.Dec.{leb}
use lib.ListN.{get_or}
use borrow.Author.Tests.{le-leb, lt-leb}
use Rattle.common.specs.Bits.{bit, dot, byte_of}
use Rattle.common.proofs.Choices.{le_or_lt}
use Rattle.common.proofs.Bits.{dot_at}
use Rattle.rules.specs.Dots.{ink}
use Rattle.theorems.proofs.Inks.{ink_lt}
use Rattle.dot_slowly.specs.declared.Walk.{Walk}
use Rattle.dot_slowly.specs.Walks.{Onward, Seen, Stands, Eighth}

-- the last dot of a byte's last bit is behind: the next byte's first
pub next_byte : (dots : ℕ) (w : Walk) → w.skip ≤ 0 → w.done < dots → dots ≤ w.done + 1 → w.bit < 8 → 7 ≤ w.bit
    → Onward dots w (record { skip = w.skip; byte = w.byte + 1; bit = 0; done = 0 })
next_byte dots w s d e b c =
    let n : 8 * (w.byte + 1) + 0 ≡ suc (8 * w.byte + w.bit) = omega arith in
    let p : (8 * (w.byte + 1) + 0) * dots ≡ (8 * w.byte + w.bit) * dots + dots = rw n (suc-mul (8 * w.byte + w.bit) dots) in
    record { ahead = omega arith; within = omega arith; near = omega arith; on = omega arith; waits = λ h. absurd (omega arith) }

-- one dot on in the row is one dot on in the page row
pub stands_on : (dots from x : ℕ) (w r : Walk) → Onward dots w r → Stands dots from x w → Stands dots from (x + 1) r
stands_on dots from x w r o s =
    record {
      ahead = o.ahead;
      within = o.within;
      place = omega (arith, o.on, s.place);
      waits = λ h. (o.waits h).1 ∙ s.waits (o.waits h).0;
    }

-- what is seen at a dot is the ink there
pub seen_ink : (row : List ℕ) (dots from x : ℕ) (w : Walk) (r : ℕ) → Stands dots from x w → Seen row w r → r ≡ ink row dots from x
unfolding ink
seen_ink row dots from x w r s v = ⊎_elim sees waits (le_or_lt w.skip 0)
  where
    sees : w.skip ≤ 0 → r ≡ cond (leb from x) (dot row ((x - from) / dots)) 0
    sees h =
        let z : w.skip ≡ 0 = omega arith in
        let d : x - from ≡ (8 * w.byte + w.bit) * dots + w.done = omega (arith, s.place) in
        let q : 0 < dots = omega (arith, s.ahead) in
        let n : 8 * w.byte + w.bit + 0 ≡ 8 * w.byte + w.bit = omega arith in
        let l : from ≤ x = omega (arith, s.place) in
        v.sees z ∙ rw (le-leb from x l, d, mul-add-div_right q (8 * w.byte + w.bit) w.done, div-eq_of_lt s.ahead, n)
        (sym (dot_at row w.byte w.bit s.within))

    waits : 0 < w.skip → r ≡ cond (leb from x) (dot row ((x - from) / dots)) 0
    waits h = v.waits h ∙ rw (lt-leb from x (omega (arith, s.place, s.waits h)))

-- the bit there, where nothing is to be skipped
pub saw : (row : List ℕ) (w : Walk) (b : ℕ) → w.skip ≤ 0 → b ≡ get_or row w.byte 0 → Seen row w (b / 2 ^ (7 - w.bit) % 2)
unfolding bit
saw row w b h e = record { small = omega arith; waits = λ k. absurd (omega arith); sees = λ z. rw e }

-- dots f 0 to f (n - 1) as a number, the first one highest, in a byte
abbrev pub packed : (ℕ → ℕ) → ℕ → ℕ
packed f zero = 0
packed f (suc n) = packed f n % 128 * 2 + f n

-- eight dots are a byte
packed_byte : (f : ℕ → ℕ) → ((i : ℕ) → f i < 2) → packed f 8 ≡ byte_of f
unfolding byte_of
packed_byte f small =
    let a : packed f 4 ≡ ((f 0 * 2 + f 1) * 2 + f 2) * 2 + f 3 = omega (arith, small 0, small 1, small 2, small 3) in
    let b : packed f 4 < 16 = omega (arith, small 0, small 1, small 2, small 3) in
    let c : packed f 6 ≡ (packed f 4 * 2 + f 4) * 2 + f 5 = omega (arith, small 4, small 5) in
    let d : packed f 6 < 64 = omega (arith, small 4, small 5) in
    let e : packed f 8 ≡ (packed f 6 * 2 + f 6) * 2 + f 7 = omega (arith, small 6, small 7) in
    omega arith

-- the ink of i dots from `start` on is packed, and the walk has come to `at`
pub record Packing (row : List ℕ) (dots : ℕ) (start : Walk) (packs : ℕ) (at : Walk) (i : ℕ) : Type 0 where
  pub upto : i ≤ 8
  pub ahead : at.done < dots
  pub within : at.bit < 8
  pub near : at.byte ≤ start.byte + i
  pub inks : (from x : ℕ) → Stands dots from x start → packs ≡ packed (λ k. ink row dots from (x + k)) i
  pub stands : (from x : ℕ) → Stands dots from x start → Stands dots from (x + i) at

-- at first none is packed
pub packing_starts : (row : List ℕ) (dots : ℕ) (w : Walk) → w.done < dots → w.bit < 8 → Packing row dots w 0 w 0
packing_starts row dots w d b =
    record {
      upto = omega arith;
      ahead = d;
      within = b;
      near = omega arith;
      inks = λ from x s. refl;
      stands = λ from x s. rw add-zero s;
    }

-- one dot more is packed
pub packing_again : (row : List ℕ) (dots : ℕ) (start : Walk) (packs : ℕ) (at : Walk) (i d : ℕ) (next : Walk)
    → Packing row dots start packs at i → i < 8 → Seen row at d → Onward dots at next → Packing row dots start (packs % 128 * 2 + d) next (i + 1)
packing_again row dots start packs at i d next v h s o =
    record {
      upto = omega arith;
      ahead = o.ahead;
      within = o.within;
      near = omega (arith, o.near, v.near);
      inks = λ from x t. rw (add-one, v.inks from x t, seen_ink row dots from (x + i) at d (v.stands from x t) s);
      stands = λ from x t. rw (← add_assoc) (stands_on dots from (x + i) at next o (v.stands from x t));
    }

-- eight are packed
pub packing_ends : (row : List ℕ) (dots : ℕ) (start : Walk) (packs : ℕ) (at : Walk) (i : ℕ) → Packing row dots start packs at i → 8 ≤ i
    → Eighth row dots start (packs, at)
packing_ends row dots start packs at i v h =
    let e : i ≡ 8 = omega (arith, v.upto) in
    record {
      inks = λ from x s. rw e at (v.inks from x s) ∙ packed_byte (λ k. ink row dots from (x + k)) (λ k. ink_lt row dots from (x + k));
      next = λ from x s. rw e at (v.stands from x s);
    }

-- the walk begins at dot 0
pub stands_first : (dots from : ℕ) → 0 < dots → Stands dots from (8 * 0) (record { skip = from; byte = 0; bit = 0; done = 0 })
stands_first dots from h = record { ahead = h; within = omega arith; place = omega arith; waits = λ k. omega arith }

-- the row is no further on than the page row
pub stands_near : (dots from x : ℕ) (w : Walk) → Stands dots from x w → 8 * w.byte ≤ x
stands_near dots from x w s =
    let p : 1 ≤ dots = omega (arith, s.ahead) in
    let m : (8 * w.byte + w.bit) * 1 ≤ (8 * w.byte + w.bit) * dots = mul-le-mul_left (8 * w.byte + w.bit) p in
    ⊎_elim (λ h. omega (arith, s.place)) (λ h. omega (arith, s.waits h)) (le_or_lt w.skip 0)
