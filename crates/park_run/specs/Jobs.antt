-- Paper 02, P1, as the program `park` has it: the state of a job run afresh for so many items, parked.
use Rattle.std.specs.Prelude.{◌≡◌, true, cond, not, List, ℕ, ◌≤◌, ltb, length, drop}
use Rattle.rules.specs.declared.Measure.{Measure}
use Rattle.rules.specs.declared.Refusal.TheVariants.{PageMeasure, PageBuffer, StreamLength}
use Rattle.rules.specs.declared.State.{State}
use Rattle.rules.specs.Given.{Parking}
use Rattle.rules.specs.Measure.{allowed, measure_of, page_bytes, is_too_long}
use Rattle.rules.specs.States.{afresh}
use Rattle.rules.specs.Sound.{sound}
use Rattle.rules.specs.Run.{trace, enough, whole_stream}
use Rattle.rules.specs.Park.{Stowed, stow_refused, park}

-- the state behind at most n items of the stream s, from the state afresh: whatever they find, and whatever pages they end
unfoldable pub state_after : Measure → ℕ → List ℕ → State
state_after g n s = (trace g n (afresh g) s).state

-- 10, 11, 12, and what parking that state comes to
unfoldable pub park_job : ℕ → ℕ → List ℕ → List ℕ → ℕ → List ℕ → Stowed
park_job W H buffer s n room =
    cond (not (allowed W H)) (stow_refused PageMeasure room)
    (cond (ltb (length buffer) (page_bytes (measure_of W H))) (stow_refused PageBuffer room)
    (cond (is_too_long s) (stow_refused StreamLength room)
    (park W H (state_after (measure_of W H) n s) room)))

-- the answer and the room as those have them; the page is drawn on, and "bytes after W/8 × H are never touched"
pub record ParksJob (W H : ℕ) (page s : List ℕ) (n : ℕ) (room : List ℕ) (r : Parking) (page' room' : List ℕ) : Type 0 where
  pub given : r ≡ (park_job W H page s n room).parking
  pub lent : room' ≡ (park_job W H page s n room).room
  pub beyond : drop (page_bytes (measure_of W H)) page' ≡ drop (page_bytes (measure_of W H)) page

-- with as many items allowed as the stream can have it is the state at its end
abbrev pub ToTheEnd : Type 0
ToTheEnd = (g : Measure) (n : ℕ) (s : List ℕ) → enough s ≤ n → state_after g n s ≡ (whole_stream g s).state

-- and it is sound: what a run leaves is never refused by 13
abbrev pub StateIsSound : Type 0
StateIsSound = (W H n : ℕ) (s : List ℕ) → allowed W H ≡ true → sound (measure_of W H) (state_after (measure_of W H) n s) ≡ true
