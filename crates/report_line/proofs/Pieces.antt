-- Laws of a line written piece by piece. Assumes nothing.
use Rattle.std.proofs.Common.{List, [], ◌∷◌, ℕ, ◌+◌, ◌≤◌, ◌<◌, length, get_or, drop, drop_of_length-le}
use Rattle.common.specs.declared.writer.Writer.{Writer}
use Rattle.common.specs.Writing.{Written}
use Rattle.common.proofs.Places.{cut}
use Rattle.common.proofs.Writing.{written_both}
use Rattle.rules.specs.Plain.{decimal}
use Rattle.rules.specs.Report.{fields}
use Rattle.number_write.proofs.Laws.{decimal_append}

-- a number, and those behind it
pub written_more : {a b c : Writer} (n : ℕ) (l : List ℕ) → Written a (9 ∷ decimal n []) b → Written b (fields l []) c → Written a (fields (n ∷ l) []) c
unfolding fields
written_more n l p q = rw (decimal_append n [] (fields l [])) (written_both p q)

-- the loop that writes the numbers of a line: with those from the k-th on all are written
pub record Listing (before : Writer) (numbers : List ℕ) (now : Writer) (k : ℕ) : Type 0 where
  pub ends : (after : Writer) → Written now (fields (drop k numbers) []) after → Written before (fields numbers []) after

-- none is written yet
pub listing_start : (before : Writer) (numbers : List ℕ) → Listing before numbers before 0
listing_start before numbers = record { ends = λ after w. w }

module _ {before now next : Writer} {numbers : List ℕ} {k : ℕ} (inv : Listing before numbers now k) where
  -- one more number
  pub listing_again : k < length numbers → Written now (9 ∷ decimal (get_or numbers k 0) []) next → Listing before numbers next (k + 1)
  listing_again h w = record { ends = λ after v. inv.ends after (rw (cut numbers k h) (written_more (get_or numbers k 0) (drop (k + 1) numbers) w v)) }

  -- no more numbers: LF
  pub listing_end : length numbers ≤ k → Written now (10 ∷ []) next → Written before (fields numbers []) next
  unfolding fields
  listing_end h w = inv.ends next (rw (drop_of_length-le numbers h) w)
