-- Laws of the lines of a text: a line in front of more is the line, and then more. Assumes nothing.
use mathlib.Core.Path.{◌≡◌, refl, ap, sym, ◌∙◌}
use mathlib.Core.List.{List, [], ◌∷◌, ◌++◌}
use Prim.Native.Nat.{ℕ, zero, suc, ◌+◌, ◌*◌, ◌/◌, ◌≤◌, ◌<◌, min}
use native.Mathlib.Omega.{arith}
use native.Mathlib.Numerals.{add-one}
use lib.ListN.{length, get_or, take, drop, drop_of_length-le}
use lib.Seq.{drop-cons}
use Rattle.common.proofs.Places.{cut}
use Rattle.rules.specs.declared.State.{State}
use Rattle.rules.specs.Forms.{parked_of, JOB}
use Rattle.rules.specs.Park.{give_out, print, lines_from, write}
use Rattle.rules.specs.Plain.{decimal}
use Rattle.rules.specs.Report.{fields, line}
use Rattle.rules.specs.Texts.{put_many, POS, put_position, put_pair, put_row}
use Rattle.number_write.proofs.Laws.{decimal_append}
use Rattle.report_line.proofs.Texts.{line_append}

take-nil : {A : Type 0} (n : ℕ) → take {A = A} n [] ≡ []
take-nil zero = refl
take-nil (suc n) = refl

-- the first n elements of k
pub take_min : {A : Type 0} (n k : ℕ) (l : List A) → length l ≡ k → take (min n k) l ≡ take n l
take_min n zero [] e = let m : min n 0 ≡ 0 = omega arith in rw m (sym (take-nil n))
take_min n zero (a ∷ l) e = absurd (omega arith)
take_min zero (suc k) l e = let m : min 0 (suc k) ≡ 0 = omega arith in rw m refl
take_min (suc n) (suc k) [] e = absurd (omega arith)
take_min (suc n) (suc k) (a ∷ l) e = let m : min (suc n) (suc k) ≡ suc (min n k) = omega arith in rw m (ap (λ r. a ∷ r) (take_min n k l (omega arith)))

-- a writer that puts its bytes in front and looks at nothing behind them
abbrev pub Puts : {A : Type 0} → (A → List ℕ → List ℕ) → Type 0
Puts {A} put = (a : A) (s t : List ℕ) → put a (s ++ t) ≡ put a s ++ t

module _ {A : Type 0} (put : A → List ℕ → List ℕ) (puts : Puts put) where
  -- many such writers are one
  pub many_append : Puts (put_many put)
  unfolding put_many
  many_append [] s t = refl
  many_append (a ∷ l) s t = ap (put a) (many_append l s t) ∙ puts a (put_many put l s) t

  -- the bytes of the element at i, and those of the elements behind it
  pub many_next : (l : List A) (i : ℕ) (d : A) (s : List ℕ) → i < length l → put_many put (drop i l) s ≡ put (get_or l i d) [] ++ put_many put (drop (i + 1) l) s
  unfolding put_many
  many_next l i d s h =
      ap (λ (m : List A). put_many put m s) (drop-cons l i d h ∙ ap (λ (k : ℕ). get_or l i d ∷ drop k l) (sym (add-one i)))
      ∙ puts (get_or l i d) [] (put_many put (drop (i + 1) l) s)

-- the first of a line's numbers, and those behind it
pub fields_first : (n : ℕ) (l s : List ℕ) → fields (n ∷ l) s ≡ (9 ∷ decimal n []) ++ fields l s
unfolding fields
fields_first n l s = ap (λ r. 9 ∷ r) (decimal_append n [] (fields l s))

-- the one at i, and those behind it
pub fields_next : (l : List ℕ) (i : ℕ) → i < length l → fields (drop i l) [] ≡ (9 ∷ decimal (get_or l i 0) []) ++ fields (drop (i + 1) l) []
fields_next l i h = ap (λ m. fields m []) (cut l i h) ∙ fields_first (get_or l i 0) (drop (i + 1) l) []

-- none is left: LF
pub fields_none : (l : List ℕ) (i : ℕ) → length l ≤ i → fields (drop i l) [] ≡ 10 ∷ []
unfolding fields
fields_none l i h = rw (drop_of_length-le l h)

pub position_append : Puts put_position
unfolding put_position
position_append p s t = line_append POS (p.x ∷ p.y ∷ []) s t

pub pair_append : Puts put_pair
unfolding put_pair
pair_append b s t = refl

-- each byte has two digits
pub pairs_length : (l s : List ℕ) → length (put_many put_pair l s) ≡ 2 * length l + length s
unfolding put_many put_pair
pairs_length [] s = omega arith
pairs_length (b ∷ l) s = let h = pairs_length l s in omega arith

-- the text of a state is its three parts, one behind the other
pub write_parts : (w h : ℕ) (t : State)
    → write JOB (parked_of w h t) ≡ line JOB.word (give_out JOB.members (parked_of w h t)) [] ++ (put_many put_position (take t.core.depth t.core.stack) [] ++ put_row (take (w / 8) t.core.seed) [])
unfolding write print lines_from
write_parts w h t =
    let ns = give_out JOB.members (parked_of w h t) in
    let row = put_row (take (w / 8) t.core.seed) [] in
    ap (line JOB.word ns) (many_append put_position position_append (take t.core.depth t.core.stack) [] row)
    ∙ line_append JOB.word ns [] (put_many put_position (take t.core.depth t.core.stack) [] ++ row)
