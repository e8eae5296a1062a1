-- The squares of a row, by bytes, and where its last dots are.
use Rattle.std.specs.Prelude.{◌≡◌, Bool, true, List, ℕ, ◌+◌, ◌*◌, ◌/◌, ◌≤◌, ◌<◌, length, get_or}
use Rattle.common.specs.Bits.{bit, dot, byte_of}

-- the row has no ink from its byte r on
pub record Used (row : List ℕ) (r : ℕ) : Type 0 where
  pub inside : r ≤ length row
  pub rest : (i : ℕ) → r ≤ i → get_or row i 0 ≡ 0

-- the answer r is yes only if the w bytes from a place on are zero
pub record Blank (w : ℕ) (row : List ℕ) (at : ℕ) (r : Bool) : Type 0 where
  pub zeros : r ≡ true → (i : ℕ) → at ≤ i → i < at + w → get_or row i 0 ≡ 0

-- byte `phase` of the ink of the byte b: each bit as so many dots
unfoldable pub spread_of : ℕ → ℕ → ℕ → ℕ
spread_of dots b phase = byte_of (λ i. bit b ((8 * phase + i) / dots))

-- the bytes l are the ink of the byte b: each bit as so many dots
pub record Spread (dots b : ℕ) (l : List ℕ) : Type 0 where
  pub same : length l ≡ dots
  pub is : (k : ℕ) → k < dots → get_or l k 0 ≡ spread_of dots b k

-- byte j of a row with so many dots to a bit
unfoldable pub square_at : List ℕ → ℕ → ℕ → ℕ
square_at row dots j = byte_of (λ i. dot row ((8 * j + i) / dots))

-- the first n bytes of a row, with so many dots to a bit, stand at the front of a list, whose other bytes are as they were before
pub record Squared (row : List ℕ) (dots n : ℕ) (before list : List ℕ) : Type 0 where
  pub same : length list ≡ length before
  pub is : (j : ℕ) → j < dots * n → get_or list j 0 ≡ square_at row dots j
  pub rest : (j : ℕ) → dots * n ≤ j → get_or list j 0 ≡ get_or before j 0

-- two lists that it allows for one input are equal
abbrev pub OneSquared : Type 0
OneSquared = (row : List ℕ) (dots n : ℕ) (before list list' : List ℕ) → Squared row dots n before list → Squared row dots n before list' → list ≡ list'
