-- What is said of a text stands in the room. Assumes nothing.
use Rattle.std.proofs.Common.{◌≡◌, refl, sym, Result, Ok, Err, List, ℕ, ◌≤◌, ◌<◌, length}
use borrow.Author.Tests.{lt-ltb, le-ltb}
use Rattle.common.specs.Stores.{Wrote}
use Rattle.rules.specs.declared.Refusal.{Refusal}
use Rattle.rules.specs.declared.Refusal.TheVariants.{StreamLength}
use Rattle.rules.specs.declared.Stored.{Stored}
use Rattle.rules.specs.Given.{Unparked, Carried, Refused}
use Rattle.rules.specs.Given as Given
use Rattle.rules.specs.Measure.{longest_stream}
use Rattle.rules.specs.Forms.{parked_of}
use Rattle.rules.specs.Park.{unparked, unpark}
use Rattle.report_verdict.specs.declared.Saying.{Saying}
use Rattle.report_verdict.specs.Said.{length_of, SaysVerdict}
use Rattle.report_verdict.proofs.Spoken.{one_said}
use Rattle.unpark_say.specs.Said.{holds, Tells, Says, OneSaying}

module _ (s room after : List ℕ) where
  -- a text longer than its place
  pub long_told : longest_stream < length s → Tells s room (Err StreamLength) room
  long_told h = (rw (lt-ltb longest_stream (length s) h) refl, refl)

  module _ (h : length s ≤ longest_stream) where
    -- one that does not read
    pub refused_told : (why : Refusal) → unparked (Err why) ≡ unpark s → Tells s room (Err why) room
    refused_told why e = (rw (le-ltb longest_stream (length s) h, ← e) refl, refl)

    -- one that reads
    pub held_told : (j : Stored) → unparked (Ok j) ≡ unpark s → (end : ℕ) → Wrote room 0 (holds (parked_of j.wide j.high j.state)) after end → Tells s room (Ok end) after
    held_told j e end w = (rw (le-ltb longest_stream (length s) h, ← e) refl, rw (← e) w)

-- what is told is said
pub said : (s room left after : List ℕ) (o : Result ℕ Refusal) (r : Saying) → Tells s room o left → SaysVerdict (Given.verdict_of o) (length_of o) left r after → Says s room r after
said s room left after (Ok end) r t y = rw t.0 (record { refused = y.refused; text = rw (sym y.ended.0, sym y.ended.1) at t.1 })
said s room left after (Err why) r t y = rw t.0 (record { refused = y.refused; text = rw t.1 at y.ended })

-- one saying
pub one_saying : OneSaying
one_saying s room r r' after after' p q = one_said r r' after after' p q
