-- What a function that counts gives.
use Rattle.std.specs.Prelude.{◌≡◌, List, ℕ, ◌≤◌, length}

-- the length of a text, which is at most top
pub record Counted (text : List ℕ) (top r : ℕ) : Type 0 where
  -- the length
  pub is : r ≡ length text
  -- its bound
  pub small : r ≤ top
