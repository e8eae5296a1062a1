-- What a word of the command line may give. Which words there are, no contract can say.
use Rattle.std.specs.Prelude.{ℕ, ◌≤◌, List, length}
use Rattle.number_word.specs.Words.{measure_word, items_word}

-- the number that is told for no word, or one that is given for a word of at most 20 bytes
pub data ReadBy (gives : List ℕ → ℕ → Type 0) (otherwise : ℕ) : ℕ → Type 0 where
  none : ReadBy gives otherwise otherwise
  word : (w : List ℕ) (n : ℕ) → length w ≤ 20 → gives w n → ReadBy gives otherwise n

-- the number that is told for no word, or the one that a word of at most 20 bytes spells, as it is read
pub data SpeltBy (read : List ℕ → ℕ) (otherwise : ℕ) : ℕ → Type 0 where
  none : SpeltBy read otherwise otherwise
  word : (w : List ℕ) → length w ≤ 20 → SpeltBy read otherwise (read w)

-- a measure
abbrev pub Spelt : ℕ → ℕ → Type 0
Spelt otherwise n = SpeltBy measure_word otherwise n

-- a number of items
abbrev pub SpeltItems : ℕ → ℕ → Type 0
SpeltItems otherwise n = SpeltBy items_word otherwise n
