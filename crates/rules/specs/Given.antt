-- What the calls give, as the paper tells it: each is carried out or refused, and what a refused one gives is told too. A program hands over a Result, what was
-- asked for or why there is none; `ran`, `translated`, `parking` and `unparked`, each beside its call, say what such a Result is in these words.
use Rattle.std.specs.Prelude.{ℕ, Bool, Result, Ok, Err}
use Rattle.rules.specs.declared.Finding.{Finding}
use Rattle.rules.specs.declared.Refusal.{Refusal}
use Rattle.rules.specs.declared.Spot.{Spot}
use Rattle.rules.specs.declared.State.{State}

-- a call is carried out or refused
pub data Verdict : Type 0 where
  Carried : Verdict
  Refused : Refusal → Verdict

abbrev pub verdict_of : {A : Type 0} → Result A Refusal → Verdict
verdict_of (Ok x) = Carried
verdict_of (Err why) = Refused why

-- what a run gives besides the page: a refusal hands state and place back, with no items done
pub record Ran : Type 0 where
  pub verdict : Verdict
  pub state : State
  pub place : ℕ
  pub finding : Finding
  pub found : ℕ  -- the finding's place, 0 where there is none
  pub began : Spot  -- where the cursor stood as its item began, 0 and 0 where there is none
  pub ended : Bool  -- a page ended
  pub done : ℕ  -- items

-- what the translator gives besides the room: the length of the plain stream, 0 if refused
pub record Translated : Type 0 where
  pub verdict : Verdict
  pub length : ℕ

-- what parking a state gives besides the room: the length of the text, 0 if refused
pub record Parking : Type 0 where
  pub verdict : Verdict
  pub length : ℕ

-- what reading a parked text gives: the page's width and height in dots and the state; if refused 0 and 0, and in the state's place one that no page has
pub record Unparked : Type 0 where
  pub verdict : Verdict
  pub wide : ℕ
  pub high : ℕ
  pub state : State
