-- What the functions for C answer is what the rules give. Assumes nothing.
use mathlib.Core.Path.{◌≡◌, refl, ap, ◌∙◌}
use mathlib.Core.Bool.{Bool, false, cond, ◌&&◌}
use mathlib.Core.List.{List}
use Prim.Native.Nat.{ℕ, ◌≤◌, ◌<◌}
use native.Mathlib.Nat.{mul-le-mul}
use native.Mathlib.Omega.{arith}
use lib.Dec.{leb}
use lib.ListN.{length, take, length-take}
use lib.Seq.{sets}
use borrow.Author.Tests.{lt-ltb, le-ltb, lt-leb, le-leb}
use Rattle.std.specs.Prelude.{Option, Some, None, Result, Ok, Err}
use Rattle.common.specs.Bits.{ones_all}
use Rattle.common.specs.Choice.{flagged}
use Rattle.rules.specs.declared.Measure.{Measure}
use Rattle.rules.specs.declared.Refusal.{Refusal}
use Rattle.rules.specs.declared.Refusal.TheVariants.{PageMeasure, UnsoundState}
use Rattle.rules.specs.declared.State.{State}
use Rattle.rules.specs.Given.{Ran}
use Rattle.rules.specs.Measure.{allowed, measure_of, page_bytes}
use Rattle.rules.specs.Findings.{finding_number, refusal_number, verdict_number}
use Rattle.rules.specs.Sound.{sound}
use Rattle.rules.specs.States.{afresh}
use Rattle.rules.specs.Run.{answer}
use Rattle.rules.specs.Given.{Translated}
use Rattle.rules.specs.Given.{Parking}
use Rattle.rules.specs.Given.{verdict_of}
use Rattle.rules.specs.Plain.{translated}
use Rattle.rules.specs.Park.{park, parking, unpark, unparked}
use Rattle.rules.specs.declared.Stored.{Stored}
use Rattle.run.proofs.Answers.{PageOf, page_there, page_none}
use Rattle.park_write.specs.Parks.{Parks}
use Rattle.theorems.specs.Statements.{RunPromise, TranslatePromise}
use Rattle.state_load.specs.Kept.{state_takes, state_at, state_bytes}
use Rattle.door.specs.Answers.{MadeAfresh, kept_after, Answered, length_told, ToldPlain, ToldParked, ToldUnparked}

-- ---- a page of this width and height, or none
module _ (W H : ℕ) (x : Option Measure) (o : x ≡ cond (allowed W H) (Some (measure_of W H)) None) where
  -- there is none where none is allowed
  absent : x ≡ None → allowed W H ≡ false
  absent e = (page_none W H x o PageMeasure (rw e)).0

  -- 10
  pub afresh_measure : (b : List ℕ) (r : ℕ) → x ≡ None → r ≡ refusal_number PageMeasure → MadeAfresh W H b r b
  afresh_measure b r e h = let z = absent e in record { number = rw z h; bytes = rw z }

  -- no page, no sound state
  pub sound_not : (b : List ℕ) → x ≡ None → false ≡ (allowed W H && sound (measure_of W H) (state_at b))
  sound_not b e = rw (absent e)

  -- and no dots
  pub dots_not : (b : List ℕ) → x ≡ None → 0 ≡ cond (allowed W H && leb (page_bytes (measure_of W H)) (length b)) (ones_all (take (page_bytes (measure_of W H)) b)) 0
  dots_not b e = rw (absent e)

  module _ (g : Measure) (e : x ≡ Some g) where
    there : PageOf W H g
    there = page_there W H x o g e

    -- 13
    pub afresh_short : (b : List ℕ) (r : ℕ) → length b < state_takes → r ≡ refusal_number UnsoundState → MadeAfresh W H b r b
    afresh_short b r l h = let z = lt-ltb (length b) state_takes l in record { number = rw (there.allows, z) h; bytes = rw (there.allows, z) }

    -- made
    pub afresh_made : (b after : List ℕ) (t : State) → state_takes ≤ length b → t ≡ afresh g → after ≡ sets b 0 (state_bytes t) → MadeAfresh W H b 0 after
    afresh_made b after t l s h =
        let z = le-ltb (length b) state_takes l in
        record { number = rw (there.allows, z); bytes = rw (there.allows, z) (h ∙ ap (λ (u : State). sets b 0 (state_bytes u)) (s ∙ ap afresh there.is)) }

    pub sound_told : (b : List ℕ) (t : State) (r : Bool) → t ≡ state_at b → r ≡ sound g t → r ≡ (allowed W H && sound (measure_of W H) (state_at b))
    sound_told b t r s h = rw there.allows (h ∙ ap (sound g) s ∙ ap (λ (z : Measure). sound z (state_at b)) there.is)

    -- dots
    module _ (b : List ℕ) (n : ℕ) (i : n ≡ page_bytes g) where
      bytes_of : n ≡ page_bytes (measure_of W H)
      bytes_of = i ∙ ap page_bytes there.is

      pub dots_short : length b < n → 0 ≡ cond (allowed W H && leb (page_bytes (measure_of W H)) (length b)) (ones_all (take (page_bytes (measure_of W H)) b)) 0
      dots_short l = rw (there.allows, lt-leb (page_bytes (measure_of W H)) (length b) (rw bytes_of at l))

      -- a page has few bytes
      pub page_few : length (take n b) ≤ 4294967296
      page_few = rw length-take (omega (arith, i, mul-le-mul there.fits.high there.fits.wide))

      pub dots_told : (r : ℕ) → n ≤ length b → r ≡ ones_all (take n b) → r ≡ cond (allowed W H && leb (page_bytes (measure_of W H)) (length b)) (ones_all (take (page_bytes (measure_of W H)) b)) 0
      dots_told r l h = rw (there.allows, le-leb (page_bytes (measure_of W H)) (length b) (rw bytes_of at l)) (h ∙ ap (λ k. ones_all (take k b)) bytes_of)

-- a run answered
pub answered : (W H : ℕ) (page stream state : List ℕ) (allowance place n : ℕ) (page' state' : List ℕ) (finding ended : ℕ) (t : State) (r : Ran) → t ≡ state_at state → RunPromise W H page stream t place allowance r page'
    → finding ≡ finding_number r.finding → ended ≡ flagged r.ended → state' ≡ kept_after r state → n ≡ verdict_number r.verdict
    → Answered W H page stream state allowance place n page' state' r.place r.done finding r.found ended
answered W H page stream state allowance place n page' state' finding ended t r e h i f k v =
    let g : r ≡ (answer W H page stream (state_at state) place allowance).ran = rw e at h.given in
    record {
      number = v ∙ ap (λ (z : Ran). verdict_number z.verdict) g;
      page_is = rw e at h.lent;
      state_is = k ∙ ap (λ (z : Ran). kept_after z state) g;
      place_is = ap (λ (z : Ran). z.place) g;
      done_is = ap (λ (z : Ran). z.done) g;
      finding_is = i ∙ ap (λ (z : Ran). finding_number z.finding) g;
      found_is = ap (λ (z : Ran). z.found) g;
      ended_is = f ∙ ap (λ (z : Ran). flagged z.ended) g;
    }

-- a translation is answered as it was given
pub told_plain : (W H : ℕ) (stream room : List ℕ) (r : Result ℕ Refusal) (after : List ℕ) (n long : ℕ) → TranslatePromise W H stream room (translated r) after → n ≡ verdict_number (verdict_of r)
    → long ≡ length_told r → ToldPlain W H stream room n after long
told_plain W H stream room r after n long h e f = record {
  number = e ∙ told r ∙ ap (λ (x : Translated). verdict_number x.verdict) h.given;
  room_is = h.lent;
  length_is = f ∙ lengths r ∙ ap (λ (x : Translated). x.length) h.given;
  demand = h.demand;
}
  where
    told : (r : Result ℕ Refusal) → verdict_number (verdict_of r) ≡ verdict_number (translated r).verdict
    told (Ok k) = refl
    told (Err why) = refl

    lengths : (r : Result ℕ Refusal) → length_told r ≡ (translated r).length
    lengths (Ok k) = refl
    lengths (Err why) = refl

-- a state is told as it was parked
pub told_parked : (W H : ℕ) (state room : List ℕ) (t : State) (r : Result ℕ Refusal) (after : List ℕ) (n long : ℕ) → t ≡ state_at state → Parks W H t room (parking r) after
    → n ≡ verdict_number (verdict_of r) → long ≡ length_told r → ToldParked W H state room n after long
told_parked W H state room t r after n long s h e f =
    let g : parking r ≡ (park W H (state_at state) room).parking = rw s at h.given in
    record {
      number = e ∙ told r ∙ ap (λ (x : Parking). verdict_number x.verdict) g;
      room_is = rw s at h.lent;
      length_is = f ∙ lengths r ∙ ap (λ (x : Parking). x.length) g;
    }
  where
    told : (r : Result ℕ Refusal) → verdict_number (verdict_of r) ≡ verdict_number (parking r).verdict
    told (Ok k) = refl
    told (Err why) = refl

    lengths : (r : Result ℕ Refusal) → length_told r ≡ (parking r).length
    lengths (Ok k) = refl
    lengths (Err why) = refl

module _ (text : List ℕ) (W H : ℕ) (state : List ℕ) where
  -- what a text holds is written
  pub told_unparked : (d : Stored) (after : List ℕ) → unparked (Ok d) ≡ unpark text → state_takes ≤ length state → after ≡ sets state 0 (state_bytes d.state) → ToldUnparked text W H state 0 d.wide d.high after
  told_unparked d after g l h = let z = le-ltb (length state) state_takes l in record { number = rw (← g, z); wide_is = rw (← g, z); high_is = rw (← g, z); state_is = rw (← g, z) h }

  -- there is no room for a state: nothing is
  pub told_short : (d : Stored) (n : ℕ) → unparked (Ok d) ≡ unpark text → length state < state_takes → n ≡ refusal_number UnsoundState → ToldUnparked text W H state n W H state
  told_short d n g l h = let z = lt-ltb (length state) state_takes l in record { number = rw (← g, z) h; wide_is = rw (← g, z); high_is = rw (← g, z); state_is = rw (← g, z) }

  -- a text that is refused stays so
  pub told_no_text : (why : Refusal) (n : ℕ) → unparked (Err why) ≡ unpark text → n ≡ refusal_number why → ToldUnparked text W H state n W H state
  told_no_text why n g h = record { number = rw (← g) h; wide_is = rw (← g); high_is = rw (← g); state_is = rw (← g) }
