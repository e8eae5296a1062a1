-- The theorems on parked texts, as statements. Each is proved in proofs/Theorems.antt; no proof is needed to read them.
use Rattle.std.specs.Prelude.{◌≡◌, true, false, cond, List, ℕ, ◌≤◌, Result, length, take}
use Rattle.rules.specs.declared.Measure.{Measure}
use Rattle.rules.specs.declared.Sequence.TheVariants.{Closed}
use Rattle.rules.specs.declared.State.{State}
use Rattle.rules.specs.Given.{Carried}
use Rattle.rules.specs.declared.Refusal.{Refusal}
use Rattle.rules.specs.declared.Stored.{Stored}
use Rattle.rules.specs.Given.{Unparked}
use Rattle.rules.specs.Measure.{allowed, measure_of}
use Rattle.rules.specs.Sound.{sound}
use Rattle.rules.specs.Forms.{Parked, JOB}
use Rattle.rules.specs.Park.{write, read, of_lines, parked_sound, given, not_of_form, not_sound, park, parking, no_state, unparked, unpark}
use Rattle.park_laws.specs.Facts.{OfForm, Parkable, Each, IsByte}
use Rattle.theorems.specs.Facts.{Shaped}

-- 1. "Writing and reading are inverse on every sound state without an open sequence": read what was written, and W, H and that state are given.
abbrev pub WrittenTextIsRead : Type 0
WrittenTextIsRead = (j : Parked) → Parkable j → read JOB (write JOB j) ≡ given j

-- and the other way round: a text that reads is, byte for byte, what writing its state gives; and what it gives can be parked: an allowed page, a sound state,
-- no sequence open
pub record IsItsText (s : List ℕ) (j : Parked) : Type 0 where
  pub parkable : Parkable j
  pub text : write JOB j ≡ s

abbrev pub ReadTextIsWritten : Type 0
ReadTextIsWritten = (s : List ℕ) (j : Parked) → read JOB s ≡ given j → IsItsText s j

-- 2. "each such state has one text": two texts that read as one state are the same, and two states of one text are
abbrev pub OneText : Type 0
OneText = (s t : List ℕ) (j : Parked) → read JOB s ≡ given j → read JOB t ≡ given j → s ≡ t

abbrev pub OneParked : Type 0
OneParked = (j k : Parked) → Parkable j → Parkable k → write JOB j ≡ write JOB k → j ≡ k

-- and a program's answer is one: two that are said to be one (`parking`, `unparked`) are equal
abbrev pub OneParkingAnswer : Type 0
OneParkingAnswer = (r r' : Result ℕ Refusal) → parking r ≡ parking r' → r ≡ r'

abbrev pub OneUnparkedAnswer : Type 0
OneUnparkedAnswer = (r r' : Result Stored Refusal) → unparked r ≡ unparked r' → r ≡ r'

-- 3. "17 text not of this form": exactly those. A text of the form is read if what it says is allowed and sound, else it is 18.
pub record Parted (s : List ℕ) : Type 0 where
  pub formless : read JOB s ≡ not_of_form → OfForm JOB s → ⊥
  pub formless_is : (OfForm JOB s → ⊥) → read JOB s ≡ not_of_form
  pub formed : (o : OfForm JOB s) → read JOB s ≡ cond (parked_sound (of_lines JOB o.says)) (given (of_lines JOB o.says)) not_sound
  pub unsound_formed : read JOB s ≡ not_sound → OfForm JOB s

abbrev pub TextsArePartedBy17And18 : Type 0
TextsArePartedBy17And18 = (s : List ℕ) → Parted s

-- 4. No text is longer than 1,905 bytes, whatever the page and the state: a room of so many is always enough.
abbrev pub longest_text : ℕ
longest_text = 1905

abbrev pub TextsFit : Type 0
TextsFit = (j : Parked) → Parkable j → length (write JOB j) ≤ longest_text

-- 5. The calls. The bytes that a call of `park` has written, given to `unpark`, are that page measure and that state: for any state that a program can hold.
abbrev pub ParkedIsUnparked : Type 0
ParkedIsUnparked = (W H : ℕ) (t : State) (room : List ℕ) → Shaped t.core → Each IsByte t.core.seed → (park W H t room).parking.verdict ≡ Carried
    → unpark (take (park W H t room).parking.length (park W H t room).room) ≡ record { verdict = Carried; wide = W; high = H; state = t }

-- What `unpark` gives, a run takes: the page measure is allowed, the state is sound on it, and no sequence is open.
pub record CanGoOn (u : Unparked) : Type 0 where
  pub measure : allowed u.wide u.high ≡ true
  pub state : sound (measure_of u.wide u.high) u.state ≡ true
  pub closed : u.state.sequence ≡ Closed
  pub shaped : Shaped u.state.core

abbrev pub UnparkedGoesOn : Type 0
UnparkedGoesOn = (s : List ℕ) → (unpark s).verdict ≡ Carried → CanGoOn (unpark s)

-- "both with no state": what stands in its place is sound on no page, so that no run goes on from it
abbrev pub NoStateGoesOn : Type 0
NoStateGoesOn = (g : Measure) → sound g no_state ≡ false
