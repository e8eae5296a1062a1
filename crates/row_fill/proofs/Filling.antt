-- A row filled by methods 1 and 2, element by element. Assumes nothing.
use mathlib.Core.Path.{◌≡◌, refl, sym, ap, ◌∙◌}
use mathlib.Core.List.{List, []}
use Prim.Native.Nat.{ℕ, suc, ◌+◌, ◌-◌, ◌≤◌, ◌<◌}
use native.Mathlib.Omega.{arith}
use lib.Dec.{leb}
use lib.ListN.{length, get_or, take, drop, replicate, length-drop, length-replicate, drop_of_length-le}
use lib.Seq.{sets, length-take-le, drop-drop}
use borrow.Author.Tests.{leb-true}
use Rattle.common.proofs.Choices.{and_true}
use Rattle.common.proofs.Places.{cut}
use Rattle.common.proofs.Stores.{sets_out}
use Rattle.rules.specs.declared.Mode.TheVariants.{Ready, Copy, Repeat}
use Rattle.rules.specs.Rows.{is_whole, changed}
use Rattle.row_control.specs.Controls.{control_of, repeated, place, wanted, whole_from}
use Rattle.row_control.proofs.Controls.{rising, pair_means, literal_means, nothing_means, run_means}
use Rattle.row_control.proofs.Changes.{first, copies, repeats, past}
use Rattle.row_control.proofs.Whole.{look_start, look_on}
use Rattle.row_piece.specs.Pieces.{Over, blank_from}
use Rattle.row_piece.proofs.Clips.{cleared}
use Rattle.row_piece.proofs.Texts.{over_just, over_blank}
use Rattle.row_fill.specs.Fills.{Put, Onward, Filled}

-- the byte at place i is put into n places, and the next places are those behind it
module _ (n at : ℕ) (s : List ℕ) (i i' at' : ℕ) (next : (i' ≡ i + 1) × (at' ≡ at + n)) (row : List ℕ) where
  -- where it is missing, nothing is put
  pub run_none : length s ≤ i → Put row row at (repeated n (drop i s)) i 1 n i' at'
  unfolding repeated
  run_none h = record { over = rw (drop_of_length-le s h) (over_just row row at [] refl); from = next.0; to = next.1 }

  -- where it is there
  pub run_some : (row' : List ℕ) → i < length s → Over row row' at (replicate n (get_or s i 0)) → Put row row' at (repeated n (drop i s)) i 1 n i' at'
  unfolding repeated
  run_some row' h e = record { over = rw (cut s i h) e; from = next.0; to = next.1 }

-- a byte that is there, n times, is n bytes
repeated_length : (n : ℕ) (s : List ℕ) (i : ℕ) → i < length s → length (repeated n (drop i s)) ≡ n
unfolding repeated
repeated_length n s i h = rw (cut s i h) (length-replicate n (get_or s i 0))

module _ (method : ℕ) (s : List ℕ) (i at : ℕ) (row : List ℕ) (h : i < length s) where
  -- a control byte that asks for bytes to copy
  copy_on : (n : ℕ) (row' : List ℕ) (i' at' : ℕ) → control_of method (get_or s i 0) at ≡ Copy n at → Put row row' at (take (n + 1) (drop (i + 1) s)) (i + 1) (n + 1) (n + 1) i' at'
      → Onward method s i at row row' i' at'
  unfolding wanted
  copy_on n row' i' at' m p =
      let o = p.from in
      let t = p.to in
      let d : n + 1 ≡ suc n = omega arith in
      record {
        same = λ q.
            let k : length (take (n + 1) (drop (i + 1) s)) ≡ n + 1 = length-take-le (n + 1) (drop (i + 1) s) (simp length-drop (omega arith)) in
            let b = over_blank row row' at (n + 1) _ p.over k in
            first (control_of method) s i at (blank_from at row) (Copy n at) h m
            ∙ copies (control_of method) n at (blank_from at row) (drop (i + 1) s)
            ∙ rw (o, t, b, d, drop-drop (suc n) (i + 1) s);
        rest = look_on method s i at (Copy n at) i' h m o;
        on = omega arith;
      }

  -- one that asks for a byte to repeat
  repeat_on : (n : ℕ) (row' : List ℕ) (i' at' : ℕ) → control_of method (get_or s i 0) at ≡ Repeat n at → Put row row' at (repeated n (drop (i + 1) s)) (i + 1) 1 n i' at'
      → Onward method s i at row row' i' at'
  unfolding wanted
  repeat_on n row' i' at' m p =
      let o = p.from in
      let t = p.to in
      record {
        same = λ q.
            let k : length (repeated n (drop (i + 1) s)) ≡ n = repeated_length n s (i + 1) (omega arith) in
            let b = over_blank row row' at n _ p.over k in
            first (control_of method) s i at (blank_from at row) (Repeat n at) h m
            ∙ repeats (control_of method) n at (blank_from at row) (drop (i + 1) s)
            ∙ rw (o, t, b, drop-drop 1 (i + 1) s);
        rest = look_on method s i at (Repeat n at) i' h m o;
        on = omega arith;
      }

  -- what follows the control byte n
  module _ (n : ℕ) (same : n ≡ get_or s i 0) (a t : ℕ) (next : (a ≡ i + 1) × (t ≡ at + 0)) where
    past_it : t ≡ at
    past_it = omega (arith, next.1)

    -- method 1: a pair
    pub pair_on : (row' : List ℕ) (i' at' : ℕ) → method ≡ 1 → Put row row' t (repeated (n + 1) (drop a s)) a 1 (n + 1) i' at' → Onward method s i at row row' i' at'
    pair_on row' i' at' e p = repeat_on (n + 1) row' i' at' (rw same (pair_means method (get_or s i 0) at e)) (rw (next.0, past_it) at p)

    module _ (lo : 1 ≤ method) (hi : method ≤ 2) (e : method ≡ 1 → ⊥) where
      -- a literal
      pub literal_on : (row' : List ℕ) (i' at' : ℕ) → get_or s i 0 < 128 → Put row row' t (take (n + 1) (drop a s)) a (n + 1) (n + 1) i' at' → Onward method s i at row row' i' at'
      literal_on row' i' at' l p = copy_on n row' i' at' (rw same (literal_means method (get_or s i 0) at (omega arith) l)) (rw (next.0, past_it) at p)

      -- 128, which asks for nothing
      pub nothing_on : get_or s i 0 ≡ 128 → Onward method s i at row row a t
      unfolding wanted
      nothing_on k =
          let m = nothing_means method (get_or s i 0) at (omega arith) k in
          rw (next.0, past_it)
          (record {
            same = λ q. first (control_of method) s i at (blank_from at row) (Ready at) h m;
            rest = look_on method s i at (Ready at) (i + 1) h m (omega arith);
            on = omega arith;
          })

      -- a run
      pub run_on : (row' : List ℕ) (i' at' : ℕ) → 128 ≤ get_or s i 0 → (get_or s i 0 ≡ 128 → ⊥) → Put row row' t (repeated (257 - n) (drop a s)) a 1 (257 - n) i' at' → Onward method s i at row row' i' at'
      run_on row' i' at' l k p = repeat_on (257 - n) row' i' at' (rw same (run_means method (get_or s i 0) at (omega arith) (omega arith))) (rw (next.0, past_it) at p)

-- ---- all of a payload

-- the row is filled up to a place, and the rest is left to do
pub record Filling (method : ℕ) (s row₀ row : List ℕ) (i at : ℕ) : Type 0 where
  pub long : length row ≡ length row₀
  pub rest : is_whole (control_of method) (Ready 0) s ≡ whole_from (control_of method) s i
  pub same : i ≤ length s → changed (control_of method) (Ready 0) (replicate (length row₀) 0) s ≡ changed (control_of method) (Ready at) (blank_from at row) (drop i s)

pub filling_none : (method : ℕ) (s row : List ℕ) → Filling method s row row 0 0
unfolding blank_from
filling_none method s row =
    record { long = refl; rest = look_start (control_of method) s; same = λ h. ap (λ r. changed (control_of method) (Ready 0) r s) (sym (cleared row (sets row 0 (replicate (length row) 0)) 0 refl)) }

pub filling_more : (method : ℕ) (s row₀ row row' : List ℕ) (i at i' at' : ℕ) → Filling method s row₀ row i at → i < length s → length row' ≡ length row → Onward method s i at row row' i' at'
    → Filling method s row₀ row' i' at'
filling_more method s row₀ row row' i at i' at' c h l o =
    record { long = l ∙ c.long; rest = c.rest ∙ o.rest; same = λ q. c.same (omega arith) ∙ o.same q }

-- the row is full
pub filling_past : (method : ℕ) (s row₀ row : List ℕ) (i at : ℕ) → Filling method s row₀ row i at → i < length s → length row ≤ at → Filled method s row₀ row i
unfolding place blank_from
filling_past method s row₀ row i at c l h =
    let b : sets row at (replicate (length row) 0) ≡ row = sets_out row at (replicate (length row) 0) h in
    record {
      rest = c.rest;
      is = λ w. sym (c.same (omega arith) ∙ ap (λ r. changed (control_of method) (Ready at) r (drop i s)) b ∙ past (control_of method) (rising method) (Ready at) row (drop i s) h);
    }

-- the payload's end: zeros are put behind what was filled
pub filling_end : (method : ℕ) (s row₀ row row' : List ℕ) (i at : ℕ) → Filling method s row₀ row i at → length s ≤ i → row' ≡ sets row at (replicate (length row) 0) → Filled method s row₀ row' i
unfolding changed blank_from
filling_end method s row₀ row row' i at c h e =
    record {
      rest = c.rest;
      is = λ w.
          let l : i ≤ length s = leb-true i (length s) (and_true (leb i (length s)) (is_whole (control_of method) (Ready 0) (drop i s)) (sym c.rest ∙ w)).0 in
          e ∙ sym (c.same l ∙ rw (drop_of_length-le s h));
    }
