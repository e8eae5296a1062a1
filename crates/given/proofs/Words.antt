-- What a word of the command line gives. Assumes nothing.
use mathlib.Core.Path.{◌≡◌}
use mathlib.Core.List.{List}
use Prim.Native.Nat.{ℕ}
use Rattle.given.specs.Words.{ReadBy, SpeltBy}

-- what is given for a word is what it spells
pub spelt_by : {gives : List ℕ → ℕ → Type 0} (read : List ℕ → ℕ) {otherwise r : ℕ} → ((w : List ℕ) (n : ℕ) → gives w n → n ≡ read w) → ReadBy gives otherwise r → SpeltBy read otherwise r
spelt_by read f ReadBy.none = SpeltBy.none
spelt_by read f (ReadBy.word w n l g) = rw (f w n g) (SpeltBy.word w l)
