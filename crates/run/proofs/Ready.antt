-- The page made ready for a run. Assumes nothing.
use mathlib.Core.Path.{◌≡◌, refl, sym, ap, ◌∙◌}
use mathlib.Core.Bool.{Bool, true, false, cond, ◌||◌}
use mathlib.Core.List.{List, ◌∷◌, ◌++◌}
use Prim.Native.Nat.{ℕ, zero, suc, ◌≤◌, min}
use native.Mathlib.Omega.{arith}
use lib.Dec.{eqb}
use lib.ListN.{length, take, drop, replicate, length-append, length-replicate}
use lib.Seq.{length-take-le, take-append-le, take-take}
use Rattle.dot_page.specs.Zeros.{FirstZero}
use Rattle.rules.specs.declared.Measure.{Measure}
use Rattle.rules.specs.declared.State.{State}
use Rattle.rules.specs.Given.{Ran}
use Rattle.rules.specs.Measure.{page_bytes, blank}
use Rattle.rules.specs.Acts.{over}
use Rattle.rules.specs.Run.{run_from, run}
use Rattle.run_items.specs.Turns.{RunsOn, StillBlank}

module _ (g : Measure) (s p ready : List ℕ) (t : State) (place allowance : ℕ) (x : Bool) (e : x ≡ over t (drop place s)) (l : length p ≡ page_bytes g) where
  -- a run on the page made ready
  pub run_ready : (r : Ran) (after : List ℕ) → ready ≡ cond (t.core.used || eqb allowance 0 || x) p (replicate (length p) 0) → RunsOn (run_from g allowance 0 place t ready (drop place s)) r after
      → RunsOn (run g allowance t place p s) r after
  unfolding run
  run_ready r after h k = rw (h, e, l) at k

-- ---- bytes that are known to be zero
-- none
pub none_known : (p : List ℕ) → FirstZero 0 p
none_known p = record { inside = omega arith; zero = refl }

take_zeros : (n m : ℕ) → n ≤ m → take {A = ℕ} n (replicate m 0) ≡ replicate n 0
take_zeros zero m h = refl
take_zeros (suc n) zero h = absurd (omega arith)
take_zeros (suc n) (suc m) h = ap (λ (l : List ℕ). 0 ∷ l) (take_zeros n m (omega arith))

-- of a part from the start
pub known_part : (n k m : ℕ) (p : List ℕ) → k ≤ length p → m ≡ min n k → FirstZero n p → FirstZero m (take k p)
known_part n k m p l e h =
    rw e
    record {
      inside = rw (length-take-le k p l) (omega arith);
      zero = take-take (min n k) k p (omega arith) ∙ sym (take-take (min n k) n p (omega arith)) ∙ ap (take (min n k)) h.zero ∙ take_zeros (min n k) n (omega arith);
    }

-- they are so with other bytes behind
pub known_before : (n : ℕ) (p rest : List ℕ) → FirstZero n p → FirstZero n (p ++ rest)
known_before n p rest h = record { inside = simp length-append (let l = h.inside in omega arith); zero = take-append-le n p rest h.inside ∙ h.zero }

-- those of a blank page
known_blank : (g : Measure) (n : ℕ) (p : List ℕ) → n ≤ page_bytes g → p ≡ blank g → FirstZero n p
known_blank g n p h e = rw e (record { inside = rw (length-replicate {A = ℕ} (page_bytes g) 0) h; zero = take_zeros n (page_bytes g) h })

-- what a run on a page made ready leaves known
pub known_ready : (g : Measure) (p ready after : List ℕ) (n n' : ℕ) (t : Bool) → length p ≡ page_bytes g → ready ≡ cond t p (replicate (length p) 0) → n ≡ cond t 0 (length p)
    → StillBlank g ready n after n' → FirstZero n' after
known_ready g p ready after n n' true l e f h =
    let z : n' ≡ 0 = let a = h.few in omega arith in
    rw z (none_known after)
known_ready g p ready after n zero false l e f h = none_known after
known_ready g p ready after n (suc m) false l e f h =
    let b : ready ≡ blank g = e ∙ rw l in
    known_blank g (suc m) after (let a = h.few in omega arith) (h.still (omega arith) b)
