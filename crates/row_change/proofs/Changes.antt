-- Changes to a row by method 3, element by element. Assumes nothing.
use mathlib.Core.Path.{◌≡◌, refl, sym, ap, ◌∙◌}
use mathlib.Core.List.{List}
use mathlib.Core.Logic.{⊎_elim}
use Prim.Native.Nat.{ℕ, suc, ◌+◌, ◌-◌, ◌*◌, ◌/◌, ◌%◌, ◌≤◌, ◌<◌, min}
use native.Mathlib.Omega.{arith}
use native.Mathlib.Numerals.{add-one}
use lib.ListN.{length, get_or, take, drop, drop_of_length-le}
use lib.Seq.{drop-drop, get_or-drop}
use Rattle.common.proofs.Choices.{le_or_lt}
use Rattle.rules.specs.declared.Mode.TheVariants.{Ready, Offset, Copy}
use Rattle.rules.specs.Rows.{changed}
use Rattle.row_control.specs.Controls.{control_of, fulls, place, Passed}
use Rattle.row_control.proofs.Controls.{rising, far_means, near_means}
use Rattle.row_control.proofs.Changes.{first, copies, offsets, past}
use Rattle.row_change.specs.Elements.{Led, Put, Onward}

-- beyond three bytes of 255 an offset is beyond the row, and any place there is as good
offset_near : (n at f v : ℕ) (row t : List ℕ) → length row ≤ 600
    → changed (control_of 3) (Copy n (at + 255 * f + v)) row t ≡ changed (control_of 3) (Copy n (at + 255 * min f 3 + v)) row t
unfolding place
offset_near n at f v row t h = ⊎_elim near far (le_or_lt f 3)
  where
    near : f ≤ 3 → changed (control_of 3) (Copy n (at + 255 * f + v)) row t ≡ changed (control_of 3) (Copy n (at + 255 * min f 3 + v)) row t
    near l = let e : min f 3 ≡ f = omega arith in rw e

    far : 3 < f → changed (control_of 3) (Copy n (at + 255 * f + v)) row t ≡ changed (control_of 3) (Copy n (at + 255 * min f 3 + v)) row t
    far l =
        past (control_of 3) (rising 3) (Copy n (at + 255 * f + v)) row t (omega arith)
        ∙ sym (past (control_of 3) (rising 3) (Copy n (at + 255 * min f 3 + v)) row t (omega arith))

-- n + 1 bytes from place a of the payload on are put into the row
copy_from : (n to : ℕ) (s : List ℕ) (a : ℕ) (row row' : List ℕ) (a' to' : ℕ) → Put row row' to (take (n + 1) (drop a s)) a (n + 1) (n + 1) a' to'
    → changed (control_of 3) (Copy n to) row (drop a s) ≡ changed (control_of 3) (Ready to') row' (drop a' s)
copy_from n to s a row row' a' to' p =
    copies (control_of 3) n to row (drop a s)
    ∙ rw (p.held, p.from, p.to, add-one, drop-drop (suc n) a s)

module _ (s : List ℕ) (i at : ℕ) (row : List ℕ) (c : ℕ) (h : i < length s) (same : c ≡ get_or s i 0) (a to : ℕ) (next : (a ≡ i + 1) × (to ≡ at + c % 32)) (row' : List ℕ) (i' at' : ℕ) where
  -- bytes are replaced
  pub near_on : (c % 32 ≡ 31 → ⊥) → Put row row' to (take (c / 32 + 1) (drop a s)) a (c / 32 + 1) (c / 32 + 1) i' at' → Onward s i at row row' i' at'
  near_on t p =
      let m : control_of 3 (get_or s i 0) at ≡ Copy (c / 32) (at + c % 32) = rw (← same) (near_means c at t) in
      let e = next.0 in
      record {
        same = first (control_of 3) s i at row (Copy (c / 32) (at + c % 32)) h m ∙ copy_from (c / 32) (at + c % 32) s (i + 1) row row' i' at' (rw (next.0, next.1) at p);
        on = omega (arith, p.from);
      }

  -- bytes are replaced behind an offset
  pub far_on : (j there : ℕ) → c % 32 ≡ 31 → length row ≤ 600 → Passed s a j → Led s a j to there
      → Put row row' there (take (c / 32 + 1) (drop (j + 1) s)) (j + 1) (c / 32 + 1) (c / 32 + 1) i' at' → Onward s i at row row' i' at'
  far_on j there t l p q f =
      let by = control_of 3 in
      let n : ℕ = c / 32 in
      let m : control_of 3 (get_or s i 0) at ≡ Offset n (at + 31) = rw (← same) (far_means c at t) in
      let d = drop (i + 1) s in
      let x = next.0 in
      let y = next.1 in
      let o : j ≡ (i + 1) + fulls d = rw x at p.is in
      let u = f.from in
      let g : j - a ≡ fulls d = omega arith in
      let k : (i + 1) + suc (fulls d) ≡ j + 1 = omega arith in
      let v : get_or d (fulls d) 0 ≡ get_or s j 0 = get_or-drop (i + 1) s (fulls d) 0 ∙ ap (λ b. get_or s b 0) (sym o) in
      let r : drop (suc (fulls d)) d ≡ drop (j + 1) s = drop-drop (suc (fulls d)) (i + 1) s ∙ ap (λ a. drop a s) k in
      let z : at + 31 ≡ to = omega arith in
      let w : (at + 31) + 255 * min (fulls d) 3 + get_or s j 0 ≡ there = rw (z, ← g) (sym q.is) in
      record {
        same = first by s i at row (Offset n (at + 31)) h m
            ∙ offsets by n (at + 31) row d
            ∙ offset_near n (at + 31) (fulls d) (get_or d (fulls d) 0) row (drop (suc (fulls d)) d) l
            ∙ rw (v, r, w) (copy_from n there s (j + 1) row row' i' at' f);
        on = omega arith;
      }

-- the changes so far, and those that are left
pub record Changing (s row₀ : List ℕ) (row : List ℕ) (i at : ℕ) : Type 0 where
  pub long : length row ≡ length row₀
  pub same : changed (control_of 3) (Ready 0) row₀ s ≡ changed (control_of 3) (Ready at) row (drop i s)

pub changing_none : (s row : List ℕ) → Changing s row row 0 0
changing_none s row = record { long = refl; same = refl }

pub changing_more : (s row₀ row row' : List ℕ) (i at i' at' : ℕ) → Changing s row₀ row i at → length row' ≡ length row → Onward s i at row row' i' at' → Changing s row₀ row' i' at'
changing_more s row₀ row row' i at i' at' c l o = record { long = l ∙ c.long; same = c.same ∙ o.same }

-- beyond the row
pub changing_past : (s row₀ row : List ℕ) (i at : ℕ) → Changing s row₀ row i at → length row ≤ at → row ≡ changed (control_of 3) (Ready 0) row₀ s
unfolding place
changing_past s row₀ row i at c h = sym (c.same ∙ past (control_of 3) (rising 3) (Ready at) row (drop i s) h)

-- the payload's end
pub changing_end : (s row₀ row : List ℕ) (i at : ℕ) → Changing s row₀ row i at → length s ≤ i → row ≡ changed (control_of 3) (Ready 0) row₀ s
unfolding changed
changing_end s row₀ row i at c h = sym (c.same ∙ rw (drop_of_length-le s h))
