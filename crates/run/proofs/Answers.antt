-- A call of a run: its refusals in their order, and the run on the page's part of the buffer. Assumes nothing.
use mathlib.Core.Path.{◌≡◌, refl, sym, ap, ◌∙◌}
use mathlib.Core.Bool.{Bool, true, false, cond}
use mathlib.Core.List.{List, ◌++◌}
use Prim.Native.Nat.{ℕ, ◌≤◌, ◌<◌}
use native.Mathlib.Omega.{arith}
use lib.Dec.{ltb}
use lib.Seq.{length-take-le}
use lib.ListN.{length, take, drop}
use borrow.Author.Tests.{lt-ltb, le-ltb}
use Rattle.std.specs.Prelude.{Option, Some, None, Err}
use Rattle.std.specs.Option.{ok_or}
use Rattle.rules.specs.declared.Measure.{Measure}
use Rattle.rules.specs.declared.Refusal.{Refusal}
use Rattle.rules.specs.declared.Refusal.TheVariants.{PageMeasure, PageBuffer, StreamLength, UnsoundState, StartPlace}
use Rattle.rules.specs.declared.State.{State}
use Rattle.rules.specs.Given.{Ran}
use Rattle.rules.specs.Measure.{allowed, measure_of, page_bytes, longest_stream}
use Rattle.rules.specs.Sound.{sound}
use Rattle.rules.specs.Run.{run, ran, answer}
use Rattle.theorems.specs.Statements.{RunPromise}
use Rattle.theorems.specs.Facts.{Fits, SoundState}
use Rattle.theorems.proofs.Measures.{allowed_gives}
use Rattle.theorems.proofs.Sound.{state_facts}
use Rattle.run_items.specs.Turns.{RunsOn}

-- ---- the page of a width and a height
-- it is the one that the rules mean, and that is allowed
pub record PageOf (W H : ℕ) (g : Measure) : Type 0 where
  pub allows : allowed W H ≡ true
  pub is : g ≡ measure_of W H
  pub fits : Fits g

module _ (W H : ℕ) (x : Option Measure) (e : x ≡ cond (allowed W H) (Some (measure_of W H)) None) where
  -- there is one
  pub page_there : (g : Measure) → x ≡ Some g → PageOf W H g
  page_there g f = go (allowed W H) refl (sym f ∙ e)
    where
      go : (b : Bool) → allowed W H ≡ b → Some g ≡ cond b (Some (measure_of W H)) None → PageOf W H g
      go true a h = let i : g ≡ measure_of W H = cc in record { allows = a; is = i; fits = rw i (allowed_gives W H a).fits }
      go false a h = absurd (let z : ◌≡◌ {A = ℕ} 0 1 = cc in omega arith)

  -- there is none, for the one reason that there is
  pub page_none : (why : Refusal) → ok_or x PageMeasure ≡ Err why → (allowed W H ≡ false) × (why ≡ PageMeasure)
  page_none why f = go (allowed W H) refl (rw e at f)
    where
      go : (b : Bool) → allowed W H ≡ b → ok_or (cond b (Some (measure_of W H)) None) PageMeasure ≡ Err why → (allowed W H ≡ false) × (why ≡ PageMeasure)
      go true a h = absurd (let z : ◌≡◌ {A = ℕ} 0 1 = cc in omega arith)
      go false a h = (a, cc)

-- ---- the state as the paper has it sound
pub is_sound : (g : Measure) (t : State) (y : Bool) → y ≡ sound g t → y ≡ true → SoundState g t
is_sound g t y d d₁ = state_facts g t (sym d ∙ d₁)

-- ---- a call
module _ (W H : ℕ) (buffer stream : List ℕ) (t : State) (at allow : ℕ) where
  -- 10
  pub no_measure : allowed W H ≡ false → RunPromise W H buffer stream t at allow (ran t at (Err PageMeasure)) buffer
  unfolding answer
  no_measure e = record { given = rw e; lent = rw e }

  module _ (g : Measure) (k : PageOf W H g) (n : ℕ) (f : n ≡ page_bytes g) where
    bytes : n ≡ page_bytes (measure_of W H)
    bytes = f ∙ ap page_bytes k.is

    -- 11
    pub no_buffer : length buffer < n → RunPromise W H buffer stream t at allow (ran t at (Err PageBuffer)) buffer
    unfolding answer
    no_buffer e =
        let z = lt-ltb (length buffer) (page_bytes (measure_of W H)) (rw bytes at e) in
        record { given = rw (k.allows, z); lent = rw (k.allows, z) }

    module _ (b : n ≤ length buffer) where
      large : ltb (length buffer) (page_bytes (measure_of W H)) ≡ false
      large = le-ltb (length buffer) (page_bytes (measure_of W H)) (rw bytes at b)

      -- 12
      pub no_stream : longest_stream < length stream → RunPromise W H buffer stream t at allow (ran t at (Err StreamLength)) buffer
      unfolding answer
      no_stream e =
          let z = lt-ltb longest_stream (length stream) e in
          record { given = rw (k.allows, large, z); lent = rw (k.allows, large, z) }

      module _ (c : length stream ≤ longest_stream) (y : Bool) (d : y ≡ sound g t) where
        short : ltb longest_stream (length stream) ≡ false
        short = le-ltb longest_stream (length stream) c

        sounds : sound (measure_of W H) t ≡ y
        sounds = ap (λ (z : Measure). sound z t) (sym k.is) ∙ sym d

        -- 13
        pub no_state : y ≡ false → RunPromise W H buffer stream t at allow (ran t at (Err UnsoundState)) buffer
        unfolding answer
        no_state e = record { given = rw (k.allows, large, short, sounds, e); lent = rw (k.allows, large, short, sounds, e) }

        module _ (d₁ : y ≡ true) where
          -- 14
          pub no_place : length stream < at → RunPromise W H buffer stream t at allow (ran t at (Err StartPlace)) buffer
          unfolding answer
          no_place e =
              let z = lt-ltb (length stream) at e in
              record { given = rw (k.allows, large, short, sounds, d₁, z); lent = rw (k.allows, large, short, sounds, d₁, z) }

          -- carried out, on the page's part of the buffer
          pub carried : (r : Ran) (part : List ℕ) → at ≤ length stream → RunsOn (run g allow t at (take n buffer) stream) r part
              → RunPromise W H buffer stream t at allow r (part ++ drop n buffer)
          unfolding answer
          carried r part e h =
              let z = le-ltb (length stream) at e in
              record {
                given = rw (k.allows, large, short, sounds, d₁, z, ← bytes) (rw k.is at h.given);
                lent = rw (k.allows, large, short, sounds, d₁, z, ← bytes) (rw k.is at (ap (λ (l : List ℕ). l ++ drop n buffer) h.lent));
              }

-- the page's part of the buffer is as long as the page
pub part_long : (l : List ℕ) (n k : ℕ) → n ≤ length l → n ≡ k → length (take n l) ≡ k
part_long l n k h e = length-take-le n l h ∙ e
