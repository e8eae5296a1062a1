-- What is known of a page's bytes before its dots are counted.
use Rattle.std.specs.Prelude.{◌≡◌, List, ℕ, ◌≤◌, length, take, replicate}

-- the first n bytes of the page p are zero
pub record FirstZero (n : ℕ) (p : List ℕ) : Type 0 where
  pub inside : n ≤ length p
  pub zero : take n p ≡ replicate n 0
