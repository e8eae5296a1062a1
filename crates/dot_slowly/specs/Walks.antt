-- A row walked dot by dot.
use Rattle.std.specs.Prelude.{◌≡◌, List, ℕ, ◌+◌, ◌*◌, ◌≤◌, ◌<◌, get_or}
use Rattle.common.specs.Bits.{bit, byte_of}
use Rattle.rules.specs.Dots.{ink}
use Rattle.dot_slowly.specs.declared.Walk.{Walk}

-- how many dots of the row were seen before
abbrev pub passed : ℕ → Walk → ℕ
passed dots w = (8 * w.byte + w.bit) * dots + w.done

-- r is one dot on from w
pub record Onward (dots : ℕ) (w r : Walk) : Type 0 where
  pub ahead : r.done < dots
  pub within : r.bit < 8
  pub near : r.byte ≤ w.byte + 1
  pub on : passed dots r + w.skip ≡ (passed dots w + r.skip) + 1
  pub waits : 0 < r.skip → (0 < w.skip) × (passed dots r ≡ passed dots w)

-- r is the row's dot at w: none while dots are to be skipped
pub record Seen (row : List ℕ) (w : Walk) (r : ℕ) : Type 0 where
  pub small : r < 2
  pub waits : 0 < w.skip → r ≡ 0
  pub sees : w.skip ≡ 0 → r ≡ bit (get_or row w.byte 0) w.bit

-- w stands at dot x of a page row, for a row that begins at dot `from`
pub record Stands (dots from x : ℕ) (w : Walk) : Type 0 where
  pub ahead : w.done < dots
  pub within : w.bit < 8
  pub place : x + w.skip ≡ from + passed dots w
  pub waits : 0 < w.skip → passed dots w ≡ 0

-- r is the ink of the eight dots from w on, and where the next one is
pub record Eighth (row : List ℕ) (dots : ℕ) (w : Walk) (r : ℕ × Walk) : Type 0 where
  pub inks : (from x : ℕ) → Stands dots from x w → r.0 ≡ byte_of (λ i. ink row dots from (x + i))
  pub next : (from x : ℕ) → Stands dots from x w → Stands dots from (x + 8) r.1
