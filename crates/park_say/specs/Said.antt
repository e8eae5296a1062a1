-- What the program `park` says: the parked text of a job's state, or a refusal in one line, REFUSED and its number.
use Rattle.std.specs.Prelude.{◌≡◌, List, ℕ}
use Rattle.rules.specs.Given.{Verdict}
use Rattle.rules.specs.Measure.{measure_of}
use Rattle.rules.specs.Forms.{parked_of, JOB}
use Rattle.rules.specs.Park.{write}
use Rattle.report_verdict.specs.declared.Saying.{Saying}
use Rattle.report_verdict.specs.Said.{SaysText}
use Rattle.park_run.specs.Jobs.{state_after, park_job}

abbrev pub verdict_of : ℕ → ℕ → List ℕ → List ℕ → ℕ → List ℕ → Verdict
verdict_of W H page s n room = (park_job W H page s n room).parking.verdict

-- the text of the state behind at most n items
abbrev pub text_of : ℕ → ℕ → List ℕ → ℕ → List ℕ
text_of W H s n = write JOB (parked_of W H (state_after (measure_of W H) n s))

-- by the verdict of parking it
abbrev pub Says : ℕ → ℕ → List ℕ → List ℕ → ℕ → List ℕ → Saying → List ℕ → Type 0
Says W H page s n room r after = SaysText (verdict_of W H page s n room) (text_of W H s n) room r after

-- One outcome: two sayings that the promise allows for one input are equal, and so is every byte of the room.
abbrev pub OneSaying : Type 0
OneSaying = (W H : ℕ) (page s : List ℕ) (n : ℕ) (room : List ℕ) (r r' : Saying) (after after' : List ℕ)
    → Says W H page s n room r after → Says W H page s n room r' after' → (r ≡ r') × (after ≡ after')
