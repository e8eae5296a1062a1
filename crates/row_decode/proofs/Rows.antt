-- The rows that the methods give. Assumes nothing.
use mathlib.Core.Path.{◌≡◌, refl, sym, ap, ◌∙◌}
use mathlib.Core.Bool.{Bool, true, false}
use mathlib.Core.List.{List, ◌++◌, append-nil}
use Prim.Native.Nat.{ℕ, ◌+◌, ◌-◌, min}
use native.Mathlib.Omega.{arith}
use lib.ListN.{length, take, drop, replicate, length-replicate, length-append, length-take}
use lib.Seq.{sets, sets-eq, length-sets, take-length, length-take-le, drop-length}
use borrow.Author.Tests.{eq-eqb, ne_eqb}
use Rattle.common.specs.Lists.{pad}
use Rattle.common.proofs.Lists.{take_append, take_replicate, sets_zeros}
use Rattle.common.proofs.Stores.{sets_append}
use Rattle.rules.specs.declared.Mode.TheVariants.{Ready}
use Rattle.rules.specs.Rows.{is_whole, changed, by_control, decoded}
use Rattle.row_decode.specs.Decoding.{Made}
use Rattle.row_piece.proofs.Clips.{clip}
use Rattle.row_control.specs.Controls.{control_of, whole_from}
use Rattle.row_fill.specs.Fills.{Filled}

module _ (method : ℕ) (s row row' : List ℕ) (w : ℕ) (t : Bool) (h : t ≡ is_whole (control_of method) (Ready 0) s) where
  -- a whole payload changes the row
  pub whole_row : t ≡ true → row' ≡ changed (control_of method) (Ready 0) row s → Made (by_control (control_of method) w row s) true row'
  unfolding by_control
  whole_row e f = let g = sym h ∙ e in record { whole = sym g; row = rw g f }

  -- a damaged one makes it zeros
  pub damaged_row : t ≡ false → (r : Bool) → (r ≡ false) × (row' ≡ replicate w 0) → Made (by_control (control_of method) w row s) r row'
  unfolding by_control
  damaged_row e r f = let g = sym h ∙ e in record { whole = f.0 ∙ sym g; row = rw g (f.1) }

-- the row is filled as far as a place of the payload
module _ (method : ℕ) (s row filled : List ℕ) (i : ℕ) (c : Filled method s row filled i) (t : Bool) where
  -- a look was made before, and the payload is whole
  pub pairs_filled : t ≡ is_whole (control_of method) (Ready 0) s → t ≡ true → Made (by_control (control_of method) (length row) (replicate (length row) 0) s) true filled
  pairs_filled h e = whole_row method s (replicate (length row) 0) filled (length row) t h e (c.is (sym h ∙ e))

  module _ (h : t ≡ whole_from (control_of method) s i) where
    -- the look goes on from there, and it is whole
    pub once_whole : t ≡ true → Made (by_control (control_of method) (length row) (replicate (length row) 0) s) true filled
    once_whole = pairs_filled (h ∙ sym c.rest)

    -- damaged
    pub once_damaged : t ≡ false → (r : Bool) (row' : List ℕ) → length filled ≡ length row → (r ≡ false) × (row' ≡ replicate (length filled) 0)
        → Made (by_control (control_of method) (length row) (replicate (length row) 0) s) r row'
    once_damaged e r row' l f = damaged_row method s (replicate (length row) 0) row' (length row) t (h ∙ sym c.rest) e r (f.0, f.1 ∙ rw l)

-- bytes put into a row, and zeros behind them, are bytes put into a row of zeros
copied_then : (row s : List ℕ) → sets (sets row 0 s) (length s) (replicate (length row) 0) ≡ sets (replicate (length row) 0) 0 s
copied_then row s =
    let n : ℕ = length row in
    let z : 0 + length s ≡ length s = omega arith in
    let v : List ℕ = s ++ replicate n 0 in
    let l : length v ≡ length s + n = simp (length-append, length-replicate) in
    let t : length (take n v) ≡ n = length-take-le n v (omega arith) in
    let o : 0 + length (take n v) ≡ length row = omega arith in
    let a : sets (sets row 0 s) (length s) (replicate n 0) ≡ sets row 0 v = ap (λ i. sets (sets row 0 s) i (replicate n 0)) (sym z) ∙ sets_append row 0 s (replicate n 0) in
    let b : sets row 0 v ≡ take n v = sym (clip row 0 v n (omega arith)) ∙ sets-eq (take n v) row 0 (omega arith) ∙ rw (o, drop-length, append-nil) in
    let c : sets (replicate n 0) 0 s ≡ pad n (take n s) =
    sym (clip (replicate n 0) 0 s n (omega (arith, length-replicate {A = ℕ} n 0))) ∙ sets_zeros n (take n s) (omega (arith, length-take n s)) in
    let m : min n (n - length s) ≡ n - length (take n s) = omega (arith, length-take n s) in
    a ∙ b ∙ take_append n s (replicate n 0) ∙ rw (take_replicate, m) (sym c)

-- method 0 puts the bytes as they are, and zeros behind them
pub plain_row : (s row copied row' : List ℕ) → copied ≡ sets row 0 (take (length s) (drop 0 s)) → row' ≡ sets copied (length s) (replicate (length copied) 0) → Made (decoded (length row) 0 row s) true row'
unfolding decoded
plain_row s row copied row' e f =
    let g : copied ≡ sets row 0 s = e ∙ rw take-length in
    let n : length copied ≡ length row = ap length g ∙ length-sets row 0 s in
    record { whole = refl; row = f ∙ rw (n, g) (copied_then row s) }

module _ (method : ℕ) (s row : List ℕ) where
  -- method 0
  pub zeroth_row : method ≡ 0 → (r : Bool) (row' : List ℕ) → Made (decoded (length row) 0 row s) r row' → Made (decoded (length row) method row s) r row'
  zeroth_row h r row' m = rw h m

  -- method 3 changes the seed row
  pub third_row : (method ≡ 0 → ⊥) → (method ≡ 1 → ⊥) → (method ≡ 2 → ⊥) → (r : Bool) (row' : List ℕ) → Made (by_control (control_of 3) (length row) row s) r row' → Made (decoded (length row) method row s) r row'
  unfolding decoded control_of
  third_row n0 n1 n2 r row' m = rw (ne_eqb method 0 n0, ne_eqb method 1 n1, ne_eqb method 2 n2, take-length) m

  -- method 1 fills a row of zeros
  pub first_row : method ≡ 1 → (r : Bool) (row' : List ℕ) → Made (by_control (control_of 1) (length row) (replicate (length row) 0) s) r row' → Made (decoded (length row) method row s) r row'
  unfolding decoded control_of
  first_row h r row' m =
      let n0 : method ≡ 0 → ⊥ = λ e. omega arith in
      rw (ne_eqb method 0 n0, eq-eqb method 1 h) m

  -- and so does method 2
  pub second_row : method ≡ 2 → (r : Bool) (row' : List ℕ) → Made (by_control (control_of 2) (length row) (replicate (length row) 0) s) r row' → Made (decoded (length row) method row s) r row'
  unfolding decoded control_of
  second_row h r row' m =
      let n0 : method ≡ 0 → ⊥ = λ e. omega arith in
      let n1 : method ≡ 1 → ⊥ = λ e. omega arith in
      rw (ne_eqb method 0 n0, ne_eqb method 1 n1, eq-eqb method 2 h) m
