-- Parking a state that nothing bars. Assumes nothing.
use Rattle.std.proofs.Common.{◌≡◌, ◌∙◌, refl, ◌≤◌, ℕ, Bool, true, false, List, Option, Some, None, cond, length, arith}
use native.Mathlib.Nat.{zero-add}
use lib.Seq.{sets-eq}
use borrow.Author.Tests.{le-ltb}
use Rattle.common.specs.Stores.{Wrote}
use Rattle.rules.specs.declared.Measure.{Measure}
use Rattle.rules.specs.declared.State.{State}
use Rattle.rules.specs.Given.{Carried}
use Rattle.rules.specs.Measure.{allowed, measure_of}
use Rattle.rules.specs.Sound.{sound}
use Rattle.rules.specs.Forms.{parked_of, JOB}
use Rattle.rules.specs.Park.{write, is_open, park}
use Rattle.park_write.specs.Parks.{Parks}

-- the page is allowed, and its measure is this one
pub page_on : (a : Bool) (m g : Measure) (r : Option Measure) → r ≡ cond a (Some m) None → r ≡ Some g → (a ≡ true) × (m ≡ g)
page_on true m g r e h = (refl, cc)
page_on false m g r e h = absurd (cc)

-- the room begins with the text, and the rest of it is as it was
pub carried : (W H : ℕ) (t : State) (room : List ℕ) → allowed W H ≡ true → sound (measure_of W H) t ≡ true → is_open t.sequence ≡ false → (n : ℕ) → n ≡ length (write JOB (parked_of W H t)) → n ≤ length room
    → (after : List ℕ) (q : ℕ) → Wrote room 0 (write JOB (parked_of W H t)) after q → Parks W H t room (record { verdict = Carried; length = n }) after
unfolding park
carried W H t room a b c n d e after q w =
    let u = le-ltb (length room) (length (write JOB (parked_of W H t))) (omega arith) in
    let v = sets-eq (write JOB (parked_of W H t)) room 0 (rw zero-add (omega arith)) in
    record { given = rw (a, b, c, u) (rw d refl); lent = rw (a, b, c, u) (w.held ∙ rw zero-add at v) }
