-- The rules of rows by method 3, as the decoder takes them: element by element. An element of a payload is a control byte with all that it asks for.
use Rattle.std.specs.Prelude.{ℕ, ◌+◌, ◌-◌, ◌*◌, ◌≤◌, ◌<◌, min, ◌≡◌, List, length, get_or, drop}
use Rattle.std.proofs.lemmas.List.Edits.{sets}
use Rattle.rules.specs.declared.Mode.TheVariants.{Ready}
use Rattle.rules.specs.Rows.{changed}
use Rattle.row_control.specs.Controls.{control_of}

-- the offset bytes from i to j lead from one place of the row to another. More than three of 255 lead beyond any row, and are not counted
pub record Led (s : List ℕ) (i j at r : ℕ) : Type 0 where
  pub is : r ≡ at + 255 * min (j - i) 3 + get_or s j 0
  pub small : r < 4000

-- a number of bytes behind the first is small, a place of the row is small too, and a place of the payload is at most one past its end
pub record Small (n at i : ℕ) (s : List ℕ) : Type 0 where
  pub few : n < 8
  pub near : at < 4000
  pub inside : i ≤ length s + 1

-- a text is put into the row from a place on. With k bytes of the payload passed and n places of the row, these are the next places of both
pub record Put (before after : List ℕ) (at : ℕ) (text : List ℕ) (i k n i' at' : ℕ) : Type 0 where
  pub held : after ≡ sets before at text
  pub from : i' ≡ i + k
  pub to : at' ≡ at + n

-- one element later the same is left to do: from the payload's place i and the row's place at, and from the places i' and at' with the row as it is after
pub record Onward (s : List ℕ) (i at : ℕ) (before after : List ℕ) (i' at' : ℕ) : Type 0 where
  pub same : changed (control_of 3) (Ready at) before (drop i s) ≡ changed (control_of 3) (Ready at') after (drop i' s)
  pub on : i < i'
