-- A row up to its last nonzero byte, found from its end. Assumes nothing.
use mathlib.Core.Path.{◌≡◌, refl, sym, ap, ◌∙◌}
use mathlib.Core.List.{List, [], ◌∷◌, ◌++◌}
use Prim.Native.Nat.{ℕ, suc, ◌+◌, ◌-◌, ◌≤◌, ◌<◌}
use native.Mathlib.Omega.{arith}
use lib.ListN.{length, take, drop, replicate, get_or, length-drop, length-replicate, get_or-replicate, take-append-drop}
use lib.Seq.{take_at, take-suc, length-take-le, get_or-drop, ext_get_or}
use borrow.Author.Tests.{ne_eqb}
use Rattle.common.specs.Lists.{keep, trim}
use Rattle.common.proofs.Lists.{trim_whole, trim_append}
use Rattle.dot_ink.specs.Ink.{Used}

-- what is kept of a row is its front
pub trim_take : (l : List ℕ) → take (length (trim l)) l ≡ trim l
trim_take l = ap (take (length (trim l))) (sym (trim_whole l)) ∙ take_at (trim l) (replicate (length l - length (trim l)) 0) (length (trim l)) refl

-- a list that ends in a byte that is not 0 is kept whole
keep_last : (l : List ℕ) (b : ℕ) → (b ≡ 0 → ⊥) → trim (l ++ (b ∷ [])) ≡ l ++ (b ∷ [])
unfolding trim
keep_last [] b h = rw (ne_eqb b 0 h)
keep_last (a ∷ []) b h = rw (ne_eqb b 0 h)
keep_last (a ∷ c ∷ l) b h = ap (keep a) (keep_last (c ∷ l) b h)

-- the search stands before place n: behind it are zeros
pub record Trims (l : List ℕ) (n : ℕ) : Type 0 where
  pub inside : n ≤ length l
  pub same : trim (take n l) ≡ trim l

-- it begins where the row is blank from
pub trims_used : (l : List ℕ) (n : ℕ) → Used l n → Trims l n
trims_used l n u =
    let i = u.inside in
    let k : length (drop n l) ≡ length l - n = length-drop n l in
    let z : drop n l ≡ replicate (length l - n) 0 =
    ext_get_or 0 (drop n l) (replicate (length l - n) 0) (k ∙ sym (length-replicate (length l - n) 0))
    (λ j h. get_or-drop n l j 0 ∙ u.rest (n + j) (omega arith) ∙ sym (get_or-replicate (length l - n) j 0 0 (omega arith))) in
    let s : l ≡ take n l ++ replicate (length l - n) 0 = sym (take-append-drop n l) ∙ ap (λ q. take n l ++ q) z in
    record { inside = i; same = sym (ap trim s ∙ trim_append (take n l) (length l - n)) }

module _ (l : List ℕ) (n : ℕ) (h : Trims l n) where
  -- the front, and the byte before place n
  front : 0 < n → take n l ≡ take (n - 1) l ++ (get_or l (n - 1) 0 ∷ [])
  front p =
      let e : n ≡ suc (n - 1) = omega arith in
      let i = h.inside in
      ap (λ (k : ℕ). take k l) e ∙ take-suc l (n - 1) 0 (omega arith)

  -- a zero before it
  pub trims_more : 0 < n → get_or l (n - 1) 0 ≡ 0 → Trims l (n - 1)
  trims_more p z =
      let i = h.inside in
      record { inside = omega arith; same = sym (rw z at (ap trim (front p)) ∙ trim_append (take (n - 1) l) 1) ∙ h.same }

  -- a byte that is not 0: all before place n is kept
  pub trims_found : 0 < n → (get_or l (n - 1) 0 ≡ 0 → ⊥) → n ≡ length (trim l)
  trims_found p z =
      let i = h.inside in
      let k : trim (take n l) ≡ take n l = ap trim (front p) ∙ keep_last (take (n - 1) l) (get_or l (n - 1) 0) z ∙ sym (front p) in
      sym (ap length (sym h.same ∙ k) ∙ length-take-le n l i)

  -- nothing is left
  pub trims_none : n ≤ 0 → n ≡ length (trim l)
  unfolding trim
  trims_none z = let e : n ≡ 0 = omega arith in e ∙ ap length (rw e at h.same)
