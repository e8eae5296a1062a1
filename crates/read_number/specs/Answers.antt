-- What the functions of this crate give.
use Rattle.std.specs.Prelude.{◌≡◌, Bool, List, ℕ, ◌+◌, ◌-◌, ◌≤◌, min, max, length, drop}
use Rattle.rules.specs.declared.Value.TheVariants.{Absolute, Relative}
use Rattle.rules.specs.Number.{Figures, value, size_of}
use Rattle.read_number.specs.declared.ValueAt.{ValueAt}
use Rattle.read_number.specs.declared.NumberAt.{NumberAt}

-- the value at a place of the bytes s
pub record ReadAt (s : List ℕ) (at : ℕ) (r : ValueAt) : Type 0 where
  -- it is the value that the rules read there
  pub is : r.value ≡ (value (drop at s)).value
  -- the place behind it is as many bytes on as the rules take
  pub next : r.next ≡ at + (length (drop at s) - length (value (drop at s)).rest)
  -- there stands what the rules leave, so that a reader can go on
  pub left : at ≤ length s → drop r.next s ≡ (value (drop at s)).rest
  -- it is not before the start
  pub on : at ≤ r.next
  -- nor beyond the end
  pub inside : r.next ≤ max at (length s)
  -- "a size over 32,767 becomes 32,767"
  pub small : size_of r.value ≤ 327670000

-- the number wanted, but no more than top, read at a place of the bytes s
pub record Took (s : List ℕ) (at : ℕ) (want : Figures) (top : ℕ) (r : NumberAt) : Type 0 where
  -- the number
  pub is : r.number ≡ min want.number top
  -- at the next place stands what is left
  pub left : drop r.next s ≡ want.rest
  -- it is not before the start
  pub on : at ≤ r.next
  -- nor beyond the end
  pub inside : r.next ≤ max at (length s)

-- a size with a sign before it
abbrev pub relative_at : Bool → NumberAt → ValueAt
relative_at negative n = record { value = Relative negative n.number; next = n.next }

-- a size with no sign
abbrev pub absolute_at : NumberAt → ValueAt
absolute_at n = record { value = Absolute n.number; next = n.next }
