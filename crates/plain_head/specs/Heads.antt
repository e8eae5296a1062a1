-- The head of a command with payload, as it is written plain.
use Rattle.std.specs.Prelude.{◌≡◌, List, [], ◌∷◌, ℕ, ◌≤◌, length}
use Rattle.rules.specs.Commands.{Spelling, print_spelled, row_spelled}
use Rattle.rules.specs.Plain.{decimal, put_start}

-- what stands before a payload of n bytes: ESC, first byte and group byte, the count and the letter
unfoldable pub head_of : Spelling → ℕ → List ℕ
head_of p n = put_start p (decimal n (p.letter ∷ []))

-- the length of such a head, the same for both commands that have one
pub record HeadLength (n r : ℕ) : Type 0 where
  -- of &p#X
  pub print : r ≡ length (head_of print_spelled n)
  -- of *b#W
  pub row : r ≡ length (head_of row_spelled n)
  -- its bound
  pub small : r ≤ 24
