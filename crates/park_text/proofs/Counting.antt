-- A text counted piece by piece. Assumes nothing.
use mathlib.Core.Path.{◌≡◌, refl, ap, ◌∙◌}
use mathlib.Core.List.{List, [], ◌∷◌, ◌++◌}
use Prim.Native.Nat.{ℕ, ◌+◌, ◌*◌, ◌/◌, ◌≤◌, ◌<◌}
use native.Mathlib.Omega.{arith}
use native.Mathlib.Nat.{mul-suc}
use native.Mathlib.Numerals.{add-one}
use lib.ListN.{length, get_or, take, drop, length-append, drop_of_length-le}
use Rattle.rules.specs.declared.Spot.{Spot}
use Rattle.rules.specs.declared.State.{State}
use Rattle.rules.specs.Forms.{parked_of, JOB}
use Rattle.rules.specs.Park.{give_out, write}
use Rattle.rules.specs.Plain.{decimal}
use Rattle.rules.specs.Report.{fields, line}
use Rattle.rules.specs.Texts.{put_many, put_position, put_row}
use Rattle.plain_length.specs.Counts.{Counted}
use Rattle.park_text.proofs.Texts.{many_next, fields_first, fields_next, fields_none, position_append, pairs_length, write_parts}

-- a loop that counts pieces of at most `most` bytes: those counted, and those of what is left, are all
pub record Counts (all : List ℕ) (most count i : ℕ) (rest : List ℕ) : Type 0 where
  pub is : length all ≡ count + length rest
  pub small : count ≤ most * i

-- nothing is counted yet
pub counts_start : (all : List ℕ) (most : ℕ) → Counts all most 0 0 all
counts_start all most = record { is = omega arith; small = omega arith }

-- one more piece
counts_again : {all piece rest rest' : List ℕ} (most count i r : ℕ) → Counts all most count i rest → Counted piece most r → rest ≡ piece ++ rest' → Counts all most (count + r) (i + 1) rest'
counts_again {all} {piece} {rest} {rest'} most count i r inv k e =
    let n : length rest ≡ length piece + length rest' = ap length e ∙ length-append piece rest' in
    let m : most * (i + 1) ≡ most * i + most = ap (λ (j : ℕ). most * j) (add-one i) ∙ mul-suc most i in
    record { is = omega (arith, inv.is, k.is); small = omega (arith, inv.small, k.small) }

-- ---- numbers behind tabs
module _ (ns : List ℕ) (count i : ℕ) (inv : Counts (fields ns []) 21 count i (fields (drop i ns) [])) where
  -- one more number
  pub fields_count : (r : ℕ) → i < length ns → Counted (9 ∷ decimal (get_or ns i 0) []) 21 r → Counts (fields ns []) 21 (count + r) (i + 1) (fields (drop (i + 1) ns) [])
  fields_count r h k = counts_again 21 count i r inv k (fields_next ns i h)

  -- no more: LF
  pub fields_counted : length ns ≤ i → i ≤ length ns → length ns ≤ 16 → Counted (fields ns []) 337 (count + 1)
  fields_counted h k f = let e : length (fields (drop i ns) []) ≡ 1 = ap length (fields_none ns i h) in record { is = omega (arith, inv.is); small = omega (arith, inv.small) }

-- ---- positions
-- one: its word, its two numbers, LF
pub position_counted : (p : Spot) (x y : ℕ) → Counted (9 ∷ decimal p.x []) 21 x → Counted (9 ∷ decimal p.y []) 21 y → Counted (put_position p []) 46 ((4 + x) + y)
unfolding put_position fields
position_counted p x y a b =
    let e : length (fields (p.x ∷ p.y ∷ []) []) ≡ length (9 ∷ decimal p.x []) + length (fields (p.y ∷ []) []) = ap length (fields_first p.x (p.y ∷ []) []) ∙ length-append (9 ∷ decimal p.x []) (fields (p.y ∷ []) []) in
    let f : length (fields (p.y ∷ []) []) ≡ length (9 ∷ decimal p.y []) + 1 = ap length (fields_first p.y [] []) ∙ length-append (9 ∷ decimal p.y []) (10 ∷ []) in
    record { is = omega (arith, a.is, b.is); small = omega (arith, a.small, b.small) }

module _ (l : List Spot) (count i : ℕ) (inv : Counts (put_many put_position l []) 46 count i (put_many put_position (drop i l) [])) where
  -- one more position
  pub positions_count : (d : Spot) (r : ℕ) → i < length l → Counted (put_position (get_or l i d) []) 46 r → Counts (put_many put_position l []) 46 (count + r) (i + 1) (put_many put_position (drop (i + 1) l) [])
  positions_count d r h k = counts_again 46 count i r inv k (many_next put_position position_append l i d [] h)

  -- no more
  pub positions_counted : length l ≤ i → i ≤ 20 → Counted (put_many put_position l []) 920 count
  unfolding put_many
  positions_counted h k =
      let f : length (put_many put_position (drop i l) []) ≡ 0 = rw (drop_of_length-le l h) refl in
      record { is = omega (arith, inv.is); small = omega (arith, inv.small) }

-- ---- the row
-- its word and the tab, two digits a byte, LF
pub row_counted : (bytes : List ℕ) → length (put_row bytes []) ≡ 5 + 2 * length bytes
unfolding put_row
row_counted bytes = omega (arith, pairs_length bytes (10 ∷ []))

-- ---- the text
-- the word, the numbers, the positions and the row
pub text_counted : (w h : ℕ) (t : State) (a b c : ℕ) → Counted (fields (give_out JOB.members (parked_of w h t)) []) 337 a
    → Counted (put_many put_position (take t.core.depth t.core.stack) []) 920 b → c ≡ 5 + 2 * length (take (w / 8) t.core.seed) → ((3 + a) + b) + c ≡ length (write JOB (parked_of w h t))
text_counted w h t a b c x y k =
    let front = line JOB.word (give_out JOB.members (parked_of w h t)) [] in
    let spots = put_many put_position (take t.core.depth t.core.stack) [] in
    let row = put_row (take (w / 8) t.core.seed) [] in
    let u : length (write JOB (parked_of w h t)) ≡ length (front ++ (spots ++ row)) = ap length (write_parts w h t) in
    omega (arith, u, length-append front (spots ++ row), length-append spots row, x.is, y.is, row_counted (take (w / 8) t.core.seed))
