-- A text put into the row, where what stands behind it is still to be written.
use Rattle.std.specs.Prelude.{◌≡◌, List, ℕ, ◌+◌, ◌<◌, length, get_or, replicate}
use Rattle.std.proofs.lemmas.List.Edits.{sets}

-- a text is put into the row from a place on, as far as the row reaches; the bytes before it stay, those behind it may be any
pub record Over (before after : List ℕ) (at : ℕ) (text : List ℕ) : Type 0 where
  pub same : length after ≡ length before
  pub front : (j : ℕ) → j < at → get_or after j 0 ≡ get_or before j 0
  pub held : (j : ℕ) → j < length text → at + j < length before → get_or after (at + j) 0 ≡ get_or text j 0

-- the row with zeros from a place on
unfoldable pub blank_from : ℕ → List ℕ → List ℕ
blank_from at row = sets row at (replicate (length row) 0)
