-- A job run and its state parked. Assumes nothing.
use Rattle.std.proofs.Common.{◌≡◌, true, List, ℕ, ◌≤◌, length, drop}
use borrow.Author.Tests.{le-ltb}
use Rattle.rules.specs.declared.State.{State}
use Rattle.rules.specs.Given.{Parking}
use Rattle.rules.specs.Measure.{allowed, measure_of, page_bytes, longest_stream}
use Rattle.park_write.specs.Parks.{Parks}
use Rattle.park_run.specs.Jobs.{state_after, park_job, ParksJob}

-- what nothing bars is run, and is as parking its state has it
pub parked : (W H : ℕ) (page s : List ℕ) (n : ℕ) (room : List ℕ) (r : Parking) → allowed W H ≡ true → page_bytes (measure_of W H) ≤ length page → length s ≤ longest_stream
    → (t : State) (page' room' : List ℕ) → (t ≡ state_after (measure_of W H) n s) × (drop (page_bytes (measure_of W H)) page' ≡ drop (page_bytes (measure_of W H)) page)
    → Parks W H t room r room' → ParksJob W H page s n room r page' room'
unfolding park_job
parked W H page s n room r a b c t page' room' e h =
    let y = le-ltb (length page) (page_bytes (measure_of W H)) b in
    let z = le-ltb longest_stream (length s) c in
    record {
      given = rw (a, y, z, ← e.0) h.given;
      lent = rw (a, y, z, ← e.0) h.lent;
      beyond = e.1;
    }
