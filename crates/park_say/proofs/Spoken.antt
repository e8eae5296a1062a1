-- What is said of a job stands in the room. Assumes nothing.
use mathlib.Core.Path.{◌≡◌, refl}
use mathlib.Core.Bool.{Bool, true, false, cond, not}
use mathlib.Core.List.{List, ◌++◌}
use Prim.Native.Nat.{ℕ}
use lib.Dec.{ltb}
use lib.ListN.{length, drop}
use borrow.Author.Tests.{ltb-false}
use Rattle.rules.specs.declared.Refusal.TheVariants.{PageMeasure, PageBuffer, StreamLength, UnsoundState, SequenceOpen, Room}
use Rattle.rules.specs.declared.State.{State}
use Rattle.std.specs.Prelude.{Result, Ok, Err}
use Rattle.rules.specs.declared.Refusal.{Refusal}
use Rattle.rules.specs.Given as Given
use Rattle.rules.specs.Given.{Carried}
use Rattle.rules.specs.Measure.{allowed, measure_of, page_bytes, is_too_long}
use Rattle.rules.specs.Sound.{sound}
use Rattle.rules.specs.Forms.{parked_of, JOB}
use Rattle.rules.specs.Park.{write, Stowed, stowed, stow_refused, is_open, park, parking}
use Rattle.report_verdict.specs.declared.Saying.{Saying}
use Rattle.report_verdict.specs.Said.{length_of, SaysVerdict, Leaves}
use Rattle.report_verdict.proofs.Spoken.{left_whole, said_of, one_said}
use Rattle.park_run.specs.Jobs.{state_after, park_job, ParksJob}
use Rattle.park_say.specs.Said.{text_of, Says, OneSaying}

-- a parking by its verdict: the text in the room, or the room as it was
abbrev Left : List ℕ → List ℕ → Stowed → Type 0
Left text room o = Leaves text room o.parking.verdict o.parking.length o.room

-- of a state
parking_left : (W H : ℕ) (t : State) (room : List ℕ) → Left (write JOB (parked_of W H t)) room (park W H t room)
unfolding park
parking_left W H t room = go (not (allowed W H)) (not (sound (measure_of W H) t)) (is_open t.sequence) (ltb (length room) (length text)) refl
  where
    text : List ℕ
    text = write JOB (parked_of W H t)

    go : (a b c d : Bool) → ltb (length room) (length text) ≡ d
        → Left text room (cond a (stow_refused PageMeasure room) (cond b (stow_refused UnsoundState room) (cond c (stow_refused SequenceOpen room) (cond d (stow_refused Room room) (stowed Carried (length text) (text ++ drop (length text) room))))))
    go true b c d e = refl
    go false true c d e = refl
    go false false true d e = refl
    go false false false true e = refl
    go false false false false e = left_whole text room (ltb-false (length room) (length text) e)

-- what is said by an answer is said by its record
by_parking : (o : Result ℕ Refusal) (left : List ℕ) (r : Saying) (after : List ℕ) → SaysVerdict (Given.verdict_of o) (length_of o) left r after → SaysVerdict (parking o).verdict (parking o).length left r after
by_parking (Ok n) left r after y = y
by_parking (Err why) left r after y = y

module _ (W H : ℕ) (page s : List ℕ) (n : ℕ) (room : List ℕ) where
  -- of a job
  job_left : Left (text_of W H s n) room (park_job W H page s n room)
  unfolding park_job
  job_left = go (not (allowed W H)) (ltb (length page) (page_bytes (measure_of W H))) (is_too_long s)
    where
      go : (a b c : Bool) → Left (text_of W H s n) room (cond a (stow_refused PageMeasure room) (cond b (stow_refused PageBuffer room) (cond c (stow_refused StreamLength room) (park W H (state_after (measure_of W H) n s) room))))
      go true b c = refl
      go false true c = refl
      go false false true = refl
      go false false false = parking_left W H (state_after (measure_of W H) n s) room

  -- what is said by its answer is said of the text
  pub parked_said : (o : Result ℕ Refusal) (page' left : List ℕ) (r : Saying) (after : List ℕ) → ParksJob W H page s n room (parking o) page' left → SaysVerdict (Given.verdict_of o) (length_of o) left r after
      → Says W H page s n room r after
  parked_said o page' left r after h y = said_of _ _ (text_of W H s n) room (park_job W H page s n room).room r after job_left (rw (h.given, h.lent) at (by_parking o left r after y))

-- one saying
pub one_saying : OneSaying
one_saying W H page s n room r r' after after' p q = one_said r r' after after' p q
