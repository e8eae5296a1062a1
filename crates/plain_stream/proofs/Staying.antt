-- Items that change nothing that an item's meaning looks at, as they are written. Assumes nothing.
use mathlib.Core.Path.{◌≡◌, refl}
use mathlib.Core.Bool.{true, false≢true}
use mathlib.Core.List.{List, [], ◌∷◌}
use Prim.Native.Nat.{ℕ, ◌≤◌}
use native.Mathlib.Omega.{arith}
use lib.ListN.{length}
use Rattle.common.specs.Choice.{one_of}
use Rattle.common.specs.Stores.{Puts}
use Rattle.common.proofs.Choices.{choice}
use Rattle.rules.specs.declared.Finding.{Finding}
use Rattle.rules.specs.declared.Command.TheVariants.{Valued, Method, Print, Row, Unknown}
use Rattle.read_item.specs.declared.Item.{Item}
use Rattle.read_item.specs.declared.Item.TheVariants as found
use Rattle.read_item.specs.Items.{item_in}
use Rattle.plain_short.specs.Bytes.{carried_codes, plain_code}
use Rattle.plain_short.proofs.Bytes.{puts_none}
use Rattle.plain_item.specs.Plain.{PutsShort, plain_command, plain_item}
use Rattle.plain_stream.specs.Staying.{stays}

-- whatever its finding and the row are, and in every stream
abbrev Still : Item → List ℕ → ℕ → List ℕ → ℕ → Type 0
Still i room at room' r = (s row : List ℕ) (f : Finding) → PutsShort room at (plain_item (item_in s i) f row) room' r

module _ (i : Item) (b : ℕ) (room : List ℕ) (at : ℕ) (room' : List ℕ) (r : ℕ) where
  pub still_text : i ≡ found.Text b → Puts room at (b ∷ []) room' r → Still i room at room' r
  unfolding plain_item
  still_text e p s row f = rw e (record { puts = p; small = omega (arith, p.next) })

  -- a code is one byte at most
  pub still_code : i ≡ found.Code b → Puts room at (plain_code b) room' r → Still i room at room' r
  unfolding plain_item
  still_code e p s row f =
      let n : length (plain_code b) ≤ 1 = choice (λ (w : List ℕ). length w ≤ 1) (one_of carried_codes b) (omega arith) (omega arith) in
      rw e (record { puts = p; small = omega (arith, p.next, n) })

-- the others are dropped
pub still_none : (i : Item) (room : List ℕ) (at : ℕ) → ((s : List ℕ) → stays (item_in s i) ≡ true) → ((b : ℕ) → i ≡ found.Text b → ⊥) → ((b : ℕ) → i ≡ found.Code b → ⊥) → Still i room at room at
unfolding plain_item plain_command
still_none (found.Text b) room at h n m = absurd (n b refl)
still_none (found.Code b) room at h n m = absurd (m b refl)
still_none (found.Two b) room at h n m = absurd (false≢true (h []))
still_none (found.Command (Valued k v) from to) room at h n m = absurd (false≢true (h []))
still_none (found.Command (Method v) from to) room at h n m = absurd (false≢true (h []))
still_none (found.Command (Print v) from to) room at h n m = absurd (false≢true (h []))
still_none (found.Command (Row v) from to) room at h n m = absurd (false≢true (h []))
still_none (found.Command Unknown from to) room at h n m = λ s row f. record { puts = puts_none room at; small = omega arith }
still_none (found.Broken k) room at h n m = λ s row f. record { puts = puts_none room at; small = omega arith }
