-- Wholeness of a payload, element by element. Assumes nothing.
use mathlib.Core.Path.{◌≡◌, refl, sym, ap, ◌∙◌}
use mathlib.Core.Bool.{Bool, true, false, cond, ◌&&◌}
use mathlib.Core.List.{List, [], ◌∷◌}
use mathlib.Core.Logic.{⊎_elim}
use Prim.Native.Nat.{ℕ, zero, suc, ◌+◌, ◌-◌, ◌%◌, ◌≤◌, ◌<◌}
use native.Mathlib.Omega.{arith}
use native.Mathlib.Numerals.{add-one}
use Rattle.std.specs.Prelude.{Option, unwrap_or, position, not}
use Rattle.std.specs.List.{position_or_len}
use Rattle.std.proofs.lemmas.List.Recursion.{is_position_or_len}
use Rattle.std.proofs.lemmas.List.Sums.{prefix_len-le-length}
use lib.Dec.{leb, eqb, ltb, leb-zero, leb-suc-zero, leb-suc-suc}
use lib.ListN.{length, get_or, drop, length-drop, drop_of_length-le}
use lib.Seq.{drop-drop}
use borrow.Author.Tests.{ltb-false, le-leb, lt-leb, eq-eqb}
use Rattle.common.proofs.Choices.{choice_by, le_or_lt}
use Rattle.common.proofs.Places.{cut}
use Rattle.rules.specs.declared.Mode.{Mode}
use Rattle.rules.specs.declared.Mode.TheVariants.{Ready, Offset, Copy, Repeat}
use Rattle.rules.specs.Rows.{control1, after, is_ready, is_whole}
use Rattle.row_control.specs.Controls.{control_of, fulls, wanted, whole_from, Means, Passed, Behind}
use Rattle.row_control.proofs.Controls.{level, Level, level_cond, levelled}

ready_level : (m : Mode) → is_ready m ≡ is_ready (level m)
unfolding level
ready_level (Ready at) = refl
ready_level (Offset n at) = refl
ready_level (Copy n at) = refl
ready_level (Repeat n at) = refl

module _ (by : ℕ → ℕ → Mode) (alike : Level by) where
  -- the mode after a byte is, but for the place, the same from every place
  after_level : (m : Mode) (b : ℕ) → level (after by m b) ≡ level (after by (level m) b)
  unfolding level after
  after_level (Ready at) b = alike b at 0
  after_level (Offset n at) b = level_cond (eqb b 255) _ _ _ _ refl refl
  after_level (Copy zero at) b = refl
  after_level (Copy (suc n) at) b = refl
  after_level (Repeat n at) b = refl

  -- the place in the row does not matter to wholeness
  whole_level : (m n : Mode) (s : List ℕ) → level m ≡ level n → is_whole by m s ≡ is_whole by n s
  unfolding is_whole
  whole_level m n [] e = ready_level m ∙ ap is_ready e ∙ sym (ready_level n)
  whole_level m n (b ∷ s) e =
      whole_level (after by m b) (after by n b) s (after_level m b ∙ ap (λ k. level (after by k b)) e ∙ sym (after_level n b))

  -- where a control byte is next, any place is as good
  whole_ready : (at : ℕ) (s : List ℕ) → is_whole by (Ready at) s ≡ is_whole by (Ready 0) s
  unfolding level
  whole_ready at s = whole_level (Ready at) (Ready 0) s refl

  -- n + 1 turns of Copy in one go
  whole_copy : (n at : ℕ) (s : List ℕ) → is_whole by (Copy n at) s ≡ whole_from by s (suc n)
  unfolding is_whole after
  whole_copy zero at [] = refl
  whole_copy zero at (b ∷ s) = rw (leb-suc-suc, leb-zero) (whole_ready (at + 1) s)
  whole_copy (suc n) at [] = rw leb-suc-zero
  whole_copy (suc n) at (b ∷ s) = rw leb-suc-suc (whole_copy n (at + 1) s)

  -- the bytes of an offset and the n + 1 bytes behind them
  whole_offset : (n at : ℕ) (s : List ℕ) → is_whole by (Offset n at) s ≡ whole_from by s (fulls s + (n + 2))
  unfolding is_whole after fulls
  whole_offset n at [] = rw (lt-leb (0 + (n + 2)) 0 (omega arith))
  whole_offset n at (b ∷ s) = go (eqb b 255) (whole_offset n (at + 255) s)
    where
      go : (t : Bool) → is_whole by (Offset n (at + 255)) s ≡ whole_from by s (fulls s + (n + 2))
          → is_whole by (cond t (Offset n (at + 255)) (Copy n (at + b))) s ≡ whole_from by (b ∷ s) (cond t (suc (fulls s)) 0 + (n + 2))
      go true h =
          let e : suc (fulls s) + (n + 2) ≡ suc (fulls s + (n + 2)) = omega arith in
          rw (e, leb-suc-suc) h
      go false h =
          let e : 0 + (n + 2) ≡ suc (suc n) = omega arith in
          rw (e, leb-suc-suc) (whole_copy n (at + b) s)

  -- what a mode asks for, in one go
  whole_asked : (m : Mode) (s : List ℕ) → is_whole by m s ≡ whole_from by s (wanted m s)
  unfolding wanted is_whole after
  whole_asked (Ready at) s = rw leb-zero (whole_ready at s)
  whole_asked (Offset n at) s = whole_offset n at s
  whole_asked (Copy n at) s = rw add-one (whole_copy n at s)
  whole_asked (Repeat n at) [] = refl
  whole_asked (Repeat n at) (b ∷ s) = rw (leb-suc-suc, leb-zero) (whole_ready (at + n) s)

  -- whole from a place on in what follows a place is whole from the later place on
  whole_later : (s : List ℕ) (i k : ℕ) → i ≤ length s → whole_from by (drop i s) k ≡ whole_from by s (i + k)
  whole_later s i k h = rw (drop-drop k i s, length-drop) (ap (λ t. t && is_whole by (Ready 0) (drop (i + k) s)) (⊎_elim in_it past_it (le_or_lt (i + k) (length s))))
    where
      in_it : i + k ≤ length s → leb k (length s - i) ≡ leb (i + k) (length s)
      in_it l = le-leb k (length s - i) (omega arith) ∙ sym (le-leb (i + k) (length s) l)

      past_it : length s < i + k → leb k (length s - i) ≡ leb (i + k) (length s)
      past_it l = lt-leb k (length s - i) (omega arith) ∙ sym (lt-leb (i + k) (length s) l)

-- method 1: pairs
whole_pairs : (at : ℕ) (s : List ℕ) → eqb (length s % 2) 0 ≡ is_whole control1 (Ready at) s
unfolding is_whole after
whole_pairs at [] = refl
whole_pairs at (a ∷ []) = refl
whole_pairs at (a ∷ b ∷ s) = let e : suc (suc (length s)) % 2 ≡ length s % 2 = omega arith in rw e (whole_pairs (at + (a + 1)) s)

-- the look at pairs
pub look_pairs : (method : ℕ) (s : List ℕ) → method ≡ 1 → eqb (length s % 2) 0 ≡ is_whole (control_of method) (Ready 0) s
unfolding control_of
look_pairs method s e = rw (eq-eqb method 1 e) (whole_pairs 0 s)

-- one element later
pub look_on : (method : ℕ) (s : List ℕ) (i at : ℕ) (m : Mode) (r : ℕ) → i < length s → control_of method (get_or s i 0) at ≡ m → r ≡ (i + 1) + wanted m (drop (i + 1) s)
    → whole_from (control_of method) s i ≡ whole_from (control_of method) s r
unfolding is_whole after
look_on method s i at m r h e f =
    let by = control_of method in
    let first : whole_from by s i ≡ is_whole by (by (get_or s i 0) 0) (drop (i + 1) s) = rw (le-leb i (length s) (omega arith), cut s i h) in
    first ∙ whole_level by (levelled method) (by (get_or s i 0) 0) (by (get_or s i 0) at) (drop (i + 1) s) (levelled method (get_or s i 0) 0 at)
    ∙ ap (λ k. is_whole by k (drop (i + 1) s)) e
    ∙ whole_asked by (levelled method) m (drop (i + 1) s)
    ∙ whole_later by (levelled method) s (i + 1) (wanted m (drop (i + 1) s)) (omega arith)
    ∙ ap (whole_from by s) (sym f)

-- the look begins
pub look_start : (by : ℕ → ℕ → Mode) (s : List ℕ) → is_whole by (Ready 0) s ≡ whole_from by s 0
look_start by s = rw leb-zero

-- the look goes on
pub look_again : (method : ℕ) (s : List ℕ) (t : Bool) (i : ℕ) (m : Mode) (r : ℕ) → t ≡ whole_from (control_of method) s i
    → i < length s → Means (control_of method (get_or s i 0) 0) m → Behind m s (i + 1) r → t ≡ whole_from (control_of method) s r
look_again method s t i m r p h e f = p ∙ look_on method s i 0 m r h (sym e.is) f.is

-- the look ends at the end of the payload, or past it
pub look_end : (by : ℕ → ℕ → Mode) (s : List ℕ) (t : Bool) (i : ℕ) → t ≡ whole_from by s i → length s ≤ i → leb i (length s) ≡ t
unfolding is_whole
look_end by s t i p h =
    let e : whole_from by s i ≡ (leb i (length s) && true) = rw (drop_of_length-le s h) in
    sym (p ∙ e ∙ and_nothing (leb i (length s)))
  where
    and_nothing : (t : Bool) → (t && true) ≡ t
    and_nothing true = refl
    and_nothing false = refl

-- a look from the first byte on
pub look_all : (by : ℕ → ℕ → Mode) (s : List ℕ) (t : Bool) → t ≡ whole_from by s 0 → t ≡ is_whole by (Ready 0) s
look_all by s t e = e ∙ sym (look_start by s)

-- the bytes of 255 in front end at the first other byte, or at the end
fulls_are : (s : List ℕ) → fulls s ≡ position_or_len (λ b. not (eqb b 255)) s
unfolding fulls
fulls_are = is_position_or_len fulls (λ b. not (eqb b 255)) refl (λ b s. turned (eqb b 255) (fulls s))
  where
    turned : (t : Bool) (n : ℕ) → cond t (suc n) 0 ≡ cond (not t) 0 (1 + n)
    turned true n = omega arith
    turned false n = refl

-- the place of the first other byte, or the end, where d are the bytes from i on
pub passed : (s : List ℕ) (i : ℕ) (d : List ℕ) (r : Option ℕ) → i ≤ length s → d ≡ drop i s → r ≡ position (λ b. not (eqb b 255)) d → Passed s i (i + unwrap_or r (length d))
passed s i d r h g e =
    let n = position_or_len (λ b. not (eqb b 255)) d in
    let l : n ≤ length d = prefix_len-le-length (λ b. not (not (eqb b 255))) d in
    let f : unwrap_or r (length d) ≡ n = rw e (choice_by (λ (o : Option ℕ). unwrap_or o (length d) ≡ n) (ltb n (length d)) (λ _. refl) (λ t. omega (arith, ltb-false n (length d) t))) in
    let k : n ≡ fulls (drop i s) = sym (fulls_are d) ∙ ap fulls g in
    record { is = omega arith; inside = omega (arith, ap length g, length-drop i s) }
