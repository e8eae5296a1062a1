-- Bytes whose ones are counted. Assumes nothing.
use mathlib.Core.Path.{◌≡◌, refl, sym, ◌∙◌}
use mathlib.Core.List.{List, [], ◌∷◌, ◌++◌}
use Prim.Native.Nat.{ℕ, zero, suc, ◌+◌, ◌-◌, ◌*◌, ◌≤◌, ◌<◌}
use native.Mathlib.Omega.{arith}
use native.Mathlib.Nat.{add_comm, zero-mul, suc-mul}
use lib.Count.{ones, ones_in}
use lib.ListN.{length, get_or, take, drop, replicate, length-drop, take-append-drop}
use lib.Seq.{take_all, drop-drop}
use Rattle.std.specs.List.{sum_by}
use Rattle.std.specs.Simd.{first_chunks}
use Rattle.std.proofs.lemmas.List.Recursion.{is_sum_by}
use Rattle.std.proofs.lemmas.List.Sums.{sum_by-cons, sum_by_more}
use Rattle.common.specs.Bits.{ones_all}
use Rattle.dot_page.specs.Zeros.{FirstZero}

-- what is summed
pub ones_summed : (r : ℕ) (s : List ℕ) → r ≡ sum_by ones s → r ≡ ones_all s
unfolding ones_all
ones_summed r s e = e ∙ sym (is_sum_by ones_all ones refl (λ _ _. refl) s)

-- the ones of two parts
ones_append : (s t : List ℕ) → ones_all (s ++ t) ≡ ones_all s + ones_all t
unfolding ones_all
ones_append [] t = omega arith
ones_append (b ∷ s) t = let e = ones_append s t in omega arith

-- the ones of k parts of n bytes each and of the bytes behind them are the ones of all
pub ones_parts : (n k : ℕ) (s : List ℕ) → sum_by ones_all (first_chunks n k s) + ones_all (drop (k * n) s) ≡ ones_all s
ones_parts n zero s = rw zero-mul (omega arith)
ones_parts n (suc k) s =
    let e = sum_by-cons ones_all (take n s) (first_chunks n k (drop n s)) in
    let m : suc k * n ≡ n + k * n = suc-mul k n ∙ add_comm (k * n) n in
    let d : drop (suc k * n) s ≡ drop (k * n) (drop n s) = rw m (sym (drop-drop (k * n) n s)) in
    let a : ones_all (take n s) + ones_all (drop n s) ≡ ones_all s = rw (← ones_append (take n s) (drop n s), take-append-drop n s) in
    rw d (omega (arith, e, a, ones_parts n k (drop n s)))

-- the ones of the first i parts are summed, onto what was there at the start
pub record Summing (parts : List (List ℕ)) (start sum i : ℕ) : Type 0 where
  pub few : sum ≤ 255 * (i + 1)
  pub is : sum ≡ start + sum_by ones_all (take i parts)

-- at first those of no part
pub summing_starts : (parts : List (List ℕ)) (start : ℕ) → start < 256 → Summing parts start start 0
summing_starts parts start h = record { few = omega arith; is = omega arith }

-- those of one part more
pub summing_more : (parts : List (List ℕ)) (start sum i r : ℕ) → Summing parts start sum i → i < length parts → r ≡ ones_all (get_or parts i []) → r < 256
    → Summing parts start (sum + r) (i + 1)
summing_more parts start sum i r v h e l =
    let m = sum_by_more ones_all parts i [] h in
    record { few = omega (arith, v.few); is = omega (arith, v.is, m) }

-- all are, and at the start there were the ones behind them
pub summing_ends : (page rest : List ℕ) (parts : List (List ℕ)) (n k start sum i : ℕ) → Summing parts start sum i → length parts ≤ i
    → parts ≡ first_chunks n k page → rest ≡ drop (k * n) page → start ≡ ones_all rest → sum ≡ ones_all page
summing_ends page rest parts n k start sum i v h p e r =
    let t : take i parts ≡ parts = take_all i parts h in
    v.is ∙ rw (r, t, p, e) (omega (arith, ones_parts n k page))

-- zeros have none
ones_zeros : (n : ℕ) → ones_all (replicate n 0) ≡ 0
unfolding ones_all ones ones_in
ones_zeros zero = refl
ones_zeros (suc n) = let e = ones_zeros n in omega arith

-- behind bytes that are zero stand all the dots
pub ones_behind : (n : ℕ) (p : List ℕ) (r : ℕ) → FirstZero n p → r ≡ ones_all (take (length p - n) (drop n p)) → r ≡ ones_all p
ones_behind n p r h e =
    let d : take (length p - n) (drop n p) ≡ drop n p = take_all (length p - n) (drop n p) (simp length-drop (omega arith)) in
    let a : ones_all (take n p) + ones_all (drop n p) ≡ ones_all p = rw (← ones_append (take n p) (drop n p), take-append-drop n p) in
    let z : ones_all (take n p) ≡ 0 = rw h.zero (ones_zeros n) in
    let f : r ≡ ones_all (drop n p) = rw d at e in
    omega arith
