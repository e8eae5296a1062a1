-- Bytes or-ed into a part of a page row, as they are or shifted.
use Rattle.std.specs.Prelude.{◌≡◌, List, [], ◌∷◌, ℕ, zero, suc, ◌+◌, ◌*◌, ◌/◌, ◌%◌, ◌^◌, ◌<◌, length, get_or}
use Rattle.std.specs.Int.Bits.{bit_or}
use Rattle.common.specs.Bits.{byte_of}
use Rattle.rules.specs.Dots.{ink}

-- byte j of what a row sets in each of its page rows
unfoldable pub ink_byte : List ℕ → ℕ → ℕ → ℕ → ℕ
ink_byte row dots from j = byte_of (λ i. ink row dots from (8 * j + i))

-- two lists or-ed, byte by byte, as far as the second goes
unfoldable pub ored : List ℕ → List ℕ → List ℕ
ored [] l = []
ored (b ∷ p) [] = b ∷ p
ored (b ∷ p) (k ∷ l) = bit_or b k ∷ ored p l

-- the byte before byte j of a list, zero before the first
unfoldable pub prior : List ℕ → ℕ → ℕ
prior l zero = 0
prior l (suc j) = get_or l j 0

-- byte j of a list, shifted s bits to the right: what a window of two bytes shows
unfoldable pub window_at : List ℕ → ℕ → ℕ → ℕ
window_at l s j = (prior l j * 256 + get_or l j 0) / 2 ^ s % 256

-- a list, shifted s bits to the right, is or-ed into a part
pub record Shifted (part list : List ℕ) (s : ℕ) (after : List ℕ) : Type 0 where
  pub same : length after ≡ length part
  pub is : (j : ℕ) → j < length part → get_or after j 0 ≡ bit_or (get_or part j 0) (window_at list s j)
