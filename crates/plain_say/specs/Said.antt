-- What the program `plain` says: the plain stream, or "a refusal .. in one line", REFUSED and its number.
use Rattle.std.specs.Prelude.{◌≡◌, List, ℕ}
use Rattle.rules.specs.Given.{Verdict}
use Rattle.rules.specs.Measure.{measure_of}
use Rattle.rules.specs.Plain.{plain, translate}
use Rattle.report_verdict.specs.declared.Saying.{Saying}
use Rattle.report_verdict.specs.Said.{SaysText}

abbrev pub verdict_of : ℕ → ℕ → List ℕ → List ℕ → Verdict
verdict_of W H s room = (translate W H s room).given.verdict

-- by the verdict of the translation
abbrev pub Says : ℕ → ℕ → List ℕ → List ℕ → Saying → List ℕ → Type 0
Says W H s room r after = SaysText (verdict_of W H s room) (plain (measure_of W H) s) room r after

-- One outcome: two sayings that the promise allows for one input are equal, and so is every byte of the room.
abbrev pub OneSaying : Type 0
OneSaying = (W H : ℕ) (s room : List ℕ) (r r' : Saying) (after after' : List ℕ) → Says W H s room r after → Says W H s room r' after' → (r ≡ r') × (after ≡ after')
