-- A text written piece by piece. Assumes nothing.
use Rattle.std.proofs.Common.{◌+◌, ◌/◌, ◌≤◌, ◌<◌, ℕ, List, [], ◌∷◌, length, get_or, take, drop, drop_of_length-le}
use Rattle.common.specs.declared.writer.Writer.{Writer}
use Rattle.common.specs.Writing.{Written}
use Rattle.common.proofs.Writing.{written_none, written_inside, written_both}
use Rattle.rules.specs.declared.State.{State}
use Rattle.rules.specs.Forms.{parked_of, JOB}
use Rattle.rules.specs.Park.{give_out, write}
use Rattle.rules.specs.Report.{line}
use Rattle.rules.specs.Texts.{ROW, put_many, put_position, put_pair, put_row}
use Rattle.park_text.proofs.Texts.{Puts, many_next, pair_append, many_append, write_parts}

-- ---- a loop that writes: with the pieces from the k-th on all are written
pub record Each {A : Type 0} (put : A → List ℕ → List ℕ) (before : Writer) (l : List A) (now : Writer) (k : ℕ) : Type 0 where
  pub inside : now.at ≤ length now.room.now
  pub ends : (after : Writer) → Written now (put_many put (drop k l) []) after → Written before (put_many put l []) after

-- none is written yet
pub each_start : {A : Type 0} (put : A → List ℕ → List ℕ) {before now : Writer} (l : List A) → Written before [] now → Each put before l now 0
each_start put l e = record { inside = written_inside e; ends = λ after w. written_both e w }

module _ {A : Type 0} {put : A → List ℕ → List ℕ} (puts : Puts put) {before now : Writer} {l : List A} {k : ℕ} (inv : Each put before l now k) where
  -- one more
  pub each_again : {next : Writer} (d : A) → k < length l → Written now (put (get_or l k d) []) next → Each put before l next (k + 1)
  each_again d h w = record { inside = written_inside w; ends = λ after v. inv.ends after (rw (many_next put puts l k d [] h) (written_both w v)) }

  -- no more
  pub each_end : length l ≤ k → Written before (put_many put l []) now
  unfolding put_many
  each_end h = inv.ends now (rw (drop_of_length-le l h) (written_none now inv.inside))

-- ---- the row: its word, its pairs, LF
pub written_row : {a b c d : Writer} (l : List ℕ) → Written a ROW b → Written b (put_many put_pair l []) c → Written c (10 ∷ []) d → Written a (put_row l []) d
unfolding put_row
written_row l p q r = rw (many_append put_pair pair_append l [] (10 ∷ [])) (written_both p (written_both q r))

-- ---- the text: its numbers, its positions and its row, one behind the other
pub written_text : {a b c d : Writer} (w h : ℕ) (t : State) → Written a (line JOB.word (give_out JOB.members (parked_of w h t)) []) b
    → Written b (put_many put_position (take t.core.depth t.core.stack) []) c → Written c (put_row (take (w / 8) t.core.seed) []) d → Written a (write JOB (parked_of w h t)) d
written_text w h t p q r = rw (write_parts w h t) (written_both p (written_both q r))
