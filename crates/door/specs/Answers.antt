-- What the functions for C answer: the rules' outcome, as numbers and bytes.
use Rattle.std.specs.Prelude.{◌≡◌, true, cond, not, List, ℕ, Result, Ok, Err, ltb, length}
use Rattle.std.proofs.lemmas.List.Edits.{sets}
use Rattle.common.specs.Choice.{flagged}
use Rattle.rules.specs.declared.Refusal.{Refusal}
use Rattle.rules.specs.declared.Refusal.TheVariants.{PageMeasure, UnsoundState}
use Rattle.rules.specs.Given.{Ran}
use Rattle.rules.specs.Given.{Verdict}
use Rattle.rules.specs.Given.{Carried, Refused}
use Rattle.rules.specs.Measure.{allowed, measure_of}
use Rattle.rules.specs.Findings.{finding_number, refusal_number, verdict_number}
use Rattle.rules.specs.States.{afresh}
use Rattle.rules.specs.Run.{answer}
use Rattle.rules.specs.Plain.{translate}
use Rattle.rules.specs.Park.{park, unpark}
use Rattle.theorems.specs.Statements.{Demand3}
use Rattle.state_load.specs.Kept.{state_takes, state_at, state_bytes, bytes_behind}

-- the refusal of a state afresh, 0 for none: 10, and 13 where there is no room for a state
abbrev pub afresh_number : ℕ → ℕ → List ℕ → ℕ
afresh_number W H b = cond (not (allowed W H)) (refusal_number PageMeasure) (cond (ltb (length b) state_takes) (refusal_number UnsoundState) 0)

-- the bytes behind it: a refusal writes nothing
abbrev pub afresh_bytes : ℕ → ℕ → List ℕ → List ℕ
afresh_bytes W H b = cond (not (allowed W H)) b (cond (ltb (length b) state_takes) b (sets b 0 (state_bytes (afresh (measure_of W H)))))

-- a state afresh made: the number given, and the bytes lent
pub record MadeAfresh (W H : ℕ) (before : List ℕ) (r : ℕ) (after : List ℕ) : Type 0 where
  pub number : r ≡ afresh_number W H before
  pub bytes : after ≡ afresh_bytes W H before

-- the state's bytes behind a run
abbrev pub kept_after : Ran → List ℕ → List ℕ
kept_after r b = bytes_behind r.verdict r.state b

-- a run answered: the outcome of the rules in the state that the bytes are read as. The refusal and the finding are two numbers; by the rules a refused
-- run has no finding
pub record Answered (W H : ℕ) (page stream state : List ℕ) (allowance place n : ℕ) (page' state' : List ℕ) (place' done finding found ended : ℕ) : Type 0 where
  pub number : n ≡ verdict_number (answer W H page stream (state_at state) place allowance).ran.verdict
  pub page_is : page' ≡ (answer W H page stream (state_at state) place allowance).page
  pub state_is : state' ≡ kept_after (answer W H page stream (state_at state) place allowance).ran state
  pub place_is : place' ≡ (answer W H page stream (state_at state) place allowance).ran.place
  pub done_is : done ≡ (answer W H page stream (state_at state) place allowance).ran.done
  pub finding_is : finding ≡ finding_number (answer W H page stream (state_at state) place allowance).ran.finding
  pub found_is : found ≡ (answer W H page stream (state_at state) place allowance).ran.found
  pub ended_is : ended ≡ flagged (answer W H page stream (state_at state) place allowance).ran.ended

-- the length that a call tells, 0 where it is refused
abbrev pub length_told : Result ℕ Refusal → ℕ
length_told (Ok n) = n
length_told (Err why) = 0

-- a translation answered: the rules' own, and demand 3 of it
pub record ToldPlain (W H : ℕ) (stream room : List ℕ) (n : ℕ) (room' : List ℕ) (long : ℕ) : Type 0 where
  pub number : n ≡ verdict_number (translate W H stream room).given.verdict
  pub room_is : room' ≡ (translate W H stream room).room
  pub length_is : long ≡ (translate W H stream room).given.length
  pub demand : allowed W H ≡ true → Demand3 (measure_of W H) stream

-- a state parked: the rules' own, of the state that the bytes are read as
pub record ToldParked (W H : ℕ) (state room : List ℕ) (n : ℕ) (room' : List ℕ) (long : ℕ) : Type 0 where
  pub number : n ≡ verdict_number (park W H (state_at state) room).parking.verdict
  pub room_is : room' ≡ (park W H (state_at state) room).room
  pub length_is : long ≡ (park W H (state_at state) room).parking.length

-- whether what a text holds is given, with so many bytes for a state: 17 and 18 first, then 13 where they are too few
abbrev pub given_verdict : Verdict → ℕ → Verdict
given_verdict Carried n = cond (ltb n state_takes) (Refused UnsoundState) Carried
given_verdict (Refused why) n = Refused why

-- a number that a refusal leaves as it was
abbrev pub unless_refused : Verdict → ℕ → ℕ → ℕ
unless_refused Carried n was = n
unless_refused (Refused why) n was = was

-- a text read: width, height and the state's bytes; a refusal writes none of them
pub record ToldUnparked (text : List ℕ) (W H : ℕ) (state : List ℕ) (n W' H' : ℕ) (state' : List ℕ) : Type 0 where
  pub number : n ≡ verdict_number (given_verdict (unpark text).verdict (length state))
  pub wide_is : W' ≡ unless_refused (given_verdict (unpark text).verdict (length state)) (unpark text).wide W
  pub high_is : H' ≡ unless_refused (given_verdict (unpark text).verdict (length state)) (unpark text).high H
  pub state_is : state' ≡ bytes_behind (given_verdict (unpark text).verdict (length state)) (unpark text).state state

-- One outcome: two that a promise allows for one input are equal, each number and each byte that was lent. `rov_sound` and `rov_dots` promise by an
-- equation, whose other side is the one outcome.
abbrev pub OneAfresh : Type 0
OneAfresh = (W H : ℕ) (before : List ℕ) (r r' : ℕ) (after after' : List ℕ) → MadeAfresh W H before r after → MadeAfresh W H before r' after' → (r ≡ r') × (after ≡ after')

-- all that a run gives: its number, the page and the state lent, and the five numbers
abbrev pub OneAnswer : Type 0
OneAnswer = (W H : ℕ) (page stream state : List ℕ) (allowance place n n₁ : ℕ) (page' page₁ state' state₁ : List ℕ) (place' place₁ done done₁ finding finding₁ found found₁ ended ended₁ : ℕ)
    → Answered W H page stream state allowance place n page' state' place' done finding found ended
    → Answered W H page stream state allowance place n₁ page₁ state₁ place₁ done₁ finding₁ found₁ ended₁
    → (n ≡ n₁) × (page' ≡ page₁) × (state' ≡ state₁) × (place' ≡ place₁) × (done ≡ done₁) × (finding ≡ finding₁) × (found ≡ found₁) × (ended ≡ ended₁)

abbrev pub OneTold : Type 0
OneTold = (W H : ℕ) (stream room : List ℕ) (n n₁ : ℕ) (room' room₁ : List ℕ) (long long₁ : ℕ) → ToldPlain W H stream room n room' long → ToldPlain W H stream room n₁ room₁ long₁
    → (n ≡ n₁) × (room' ≡ room₁) × (long ≡ long₁)

abbrev pub OneToldParked : Type 0
OneToldParked = (W H : ℕ) (state room : List ℕ) (n n₁ : ℕ) (room' room₁ : List ℕ) (long long₁ : ℕ) → ToldParked W H state room n room' long → ToldParked W H state room n₁ room₁ long₁
    → (n ≡ n₁) × (room' ≡ room₁) × (long ≡ long₁)

abbrev pub OneToldUnparked : Type 0
OneToldUnparked = (text : List ℕ) (W H : ℕ) (state : List ℕ) (n n₁ W' W₁ H' H₁ : ℕ) (state' state₁ : List ℕ) → ToldUnparked text W H state n W' H' state' → ToldUnparked text W H state n₁ W₁ H₁ state₁
    → (n ≡ n₁) × (W' ≡ W₁) × (H' ≡ H₁) × (state' ≡ state₁)
