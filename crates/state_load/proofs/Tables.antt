-- Arrays read from bytes. Assumes nothing.
use Prim.{tt}
use mathlib.Core.Path.{◌≡◌, refl, sym, ◌∙◌, subst}
use mathlib.Core.List.{List}
use Prim.Native.Nat.{ℕ, zero, suc, ◌+◌, ◌<◌}
use native.Mathlib.Omega.{arith}
use denote.Param.Members.{Mut, Called}
use Rattle.std.specs.Prelude.{length, get_or, slice_index_or}
use Rattle.std.specs.Array.{IsFromFnResultFrom, IsFromFnResult}
use Rattle.std.proofs.lemmas.List.FromFn.{length-map-range_with_len, fill_by_all}
use Rattle.state_load.specs.Kept.{table}

module _ {A : Type 0} where
  -- a table has as many entries as it says
  pub table_length : (n : ℕ) (f : ℕ → A) → length (table n f) ≡ n
  unfolding table
  table_length n f = length-map-range_with_len f 0 n

  -- a list is the table of its entries
  pub table_whole : (n : ℕ) (f : ℕ → A) (l : List A) (d : A) → length l ≡ n → ((i : ℕ) → i < length l → f i ≡ get_or l i d) → table n f ≡ l
  unfolding table
  table_whole n f l d h e = sym (fill_by_all f l n d h (λ k p. sym (e k (omega (arith, h, p)))))

-- an array that a closure made of the index is the table of what it gives
module _ {F A : Type 0} (g : Mut F (ℕ × Unit {0}) A) (f : F) (h : ℕ → A) (ys : List A) (gives : (i : ℕ) (y : A) (q : F) → Called g f (i, tt) y q → (q ≡ f) × (y ≡ h i)) where
  made_at : (n i k : ℕ) (p : F) → p ≡ f → IsFromFnResultFrom g p ys i n → k < n → (d : A) → slice_index_or ys (i + k) d ≡ h (i + k)
  made_at zero i k p e r l d = absurd (omega arith)
  made_at (suc n) i zero p e (q, y, a, c, r) l d =
      let z : i + 0 ≡ i = omega arith in
      rw z (a.1 d ∙ (gives i y q (subst (λ w. Called g w (i, tt) y q) e c)).1)
  made_at (suc n) i (suc k) p e (q, y, a, c, r) l d =
      let z : i + suc k ≡ i + 1 + k = omega arith in
      rw z (made_at n (i + 1) k q (gives i y q (subst (λ w. Called g w (i, tt) y q) e c)).0 r (omega arith) d)

  pub made_table : (n : ℕ) (d : A) → IsFromFnResult g f ys n → ys ≡ table n h
  unfolding table
  made_table n d m = fill_by_all h ys n d m.long (λ k l. let z : 0 + k ≡ k = omega arith in let r = made_at n 0 k f refl m.each l d in rw z at r)
