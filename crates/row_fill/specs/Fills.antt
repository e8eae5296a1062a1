-- The rules of rows by methods 1 and 2, as the decoder takes them: element by element, into a row in which what is still to be written may be anything.
use Rattle.std.specs.Prelude.{ℕ, ◌+◌, ◌≤◌, ◌<◌, ◌≡◌, true, List, length, drop, replicate}
use Rattle.rules.specs.declared.Mode.TheVariants.{Ready}
use Rattle.rules.specs.Rows.{is_whole, changed}
use Rattle.row_control.specs.Controls.{control_of, whole_from}
use Rattle.row_piece.specs.Pieces.{Over, blank_from}

-- a number of bytes is small, a place of the row is small too, and a place of the payload is at most one past its end
pub record Small (n at i : ℕ) (s : List ℕ) : Type 0 where
  pub few : n ≤ 256
  pub near : at < 4000
  pub inside : i ≤ length s + 1

-- a text is put into the row from a place on. With k bytes of the payload passed and n places of the row, these are the next places of both
pub record Put (before after : List ℕ) (at : ℕ) (text : List ℕ) (i k n i' at' : ℕ) : Type 0 where
  pub over : Over before after at text
  pub from : i' ≡ i + k
  pub to : at' ≡ at + n

-- one element later the same is left to do, unless a byte was missing: from the payload's place i and the row's place at, and from the places i' and at' with the
-- row as it is after, each with zeros from its place on. The payload is whole from the one place on where it is from the other
pub record Onward (method : ℕ) (s : List ℕ) (i at : ℕ) (before after : List ℕ) (i' at' : ℕ) : Type 0 where
  pub same : i' ≤ length s → changed (control_of method) (Ready at) (blank_from at before) (drop i s) ≡ changed (control_of method) (Ready at') (blank_from at' after) (drop i' s)
  pub rest : whole_from (control_of method) s i ≡ whole_from (control_of method) s i'
  pub on : i < i'

-- a payload has filled the row, as far as place r of it: it is whole where it is whole from there on, and then the row is what the rules make of a row of zeros
pub record Filled (method : ℕ) (s before after : List ℕ) (r : ℕ) : Type 0 where
  pub rest : is_whole (control_of method) (Ready 0) s ≡ whole_from (control_of method) s r
  pub is : is_whole (control_of method) (Ready 0) s ≡ true → after ≡ changed (control_of method) (Ready 0) (replicate (length before) 0) s
