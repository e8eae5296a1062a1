-- A call of the translator: its refusals in their order, and the plain stream in the room. Assumes nothing.
use mathlib.Core.Path.{◌≡◌, ◌∙◌}
use mathlib.Core.Bool.{true, false}
use mathlib.Core.List.{List, ◌++◌}
use mathlib.Core.Logic.{⊎_elim}
use Prim.Native.Nat.{ℕ, ◌≤◌, ◌<◌, min}
use native.Mathlib.Omega.{arith}
use native.Mathlib.Nat.{zero-add}
use lib.Dec.{ltb}
use lib.ListN.{length}
use lib.Seq.{sets, sets-eq}
use borrow.Author.Tests.{lt-ltb, le-ltb}
use Rattle.rules.specs.declared.Measure.{Measure}
use Rattle.std.specs.Prelude.{Ok, Err}
use Rattle.rules.specs.declared.Refusal.TheVariants.{PageMeasure, StreamLength, Room}
use Rattle.rules.specs.Given.{Translated}
use Rattle.rules.specs.Measure.{allowed, measure_of, longest_stream}
use Rattle.rules.specs.Plain.{plain, translated, no_room, translate}
use Rattle.theorems.specs.Statements.{TranslatePromise}
use Rattle.theorems.proofs.Theorems.{every_stream_has_a_plain_stream}
use Rattle.common.proofs.Choices.{or_true_left, or_true_right, or_neither, le_or_lt}
use Rattle.common.specs.Stores.{Puts}
use Rattle.run.proofs.Answers.{PageOf}
use Rattle.plain_stream.specs.Walked.{walked}
use Rattle.plain_stream.proofs.Telling.{no_bytes, walked_plain, walked_beyond}

module _ (W H : ℕ) (stream room : List ℕ) where
  -- the promise from its two equations
  promised : (r : Translated) (after : List ℕ) → r ≡ (translate W H stream room).given → after ≡ (translate W H stream room).room → TranslatePromise W H stream room r after
  promised r after e f = record { given = e; lent = f; demand = every_stream_has_a_plain_stream W H stream }

  -- 10
  pub no_measure : allowed W H ≡ false → TranslatePromise W H stream room (translated (Err PageMeasure)) room
  unfolding translate
  no_measure e = promised (translated (Err PageMeasure)) room (rw e) (rw e)

  module _ (g : Measure) (k : PageOf W H g) where
    -- 12
    pub no_stream : longest_stream < length stream → TranslatePromise W H stream room (translated (Err StreamLength)) room
    unfolding translate
    no_stream e =
        let z = lt-ltb longest_stream (length stream) e in
        promised (translated (Err StreamLength)) room (rw (k.allows, z)) (rw (k.allows, z))

    module _ (c : length stream ≤ longest_stream) (most : ℕ) (w : most ≡ min (length room) longest_stream)
        (none' none : List ℕ) (n : ℕ) (p : Puts none' 0 (walked g most stream) none n) (z : length none ≡ 0) where
      -- the length of the plain stream
      abbrev long : ℕ
      long = length (plain (measure_of W H) stream)

      -- more is to be written than there is room for, or than a stream may have: 15
      short : most < long → no_room (plain (measure_of W H) stream) room ≡ true
      short l = ⊎_elim
          (λ e. or_true_right (ltb (length room) long) (ltb longest_stream long) (lt-ltb longest_stream long (omega arith)))
          (λ e. or_true_left (ltb (length room) long) (ltb longest_stream long) (lt-ltb (length room) long e))
          (le_or_lt long (length room))

      pub no_room_lem : most < n → TranslatePromise W H stream room (translated (Err Room)) (none ++ room)
      unfolding translate
      no_room_lem l =
          let y = le-ltb longest_stream (length stream) c in
          let t = short (rw k.is at (walked_beyond g most stream none' none n p l)) in
          rw (no_bytes none z) (promised (translated (Err Room)) room (rw (k.allows, y, t)) (rw (k.allows, y, t)))

      -- carried out: the room begins with the plain stream, and the rest of it is as it was
      pub carried : n ≤ most → (after : List ℕ) (q : ℕ) → Puts (none ++ room) 0 (walked g most stream) after q → TranslatePromise W H stream room (translated (Ok n)) after
      unfolding translate
      carried l after q h =
          let y = le-ltb longest_stream (length stream) c in
          let e : n ≡ long = rw (k.is, zero-add) at (walked_plain g most stream none' none n p l).next in
          let t : no_room (plain (measure_of W H) stream) room ≡ false = or_neither (ltb (length room) long) (ltb longest_stream long) (le-ltb (length room) long (omega arith)) (le-ltb longest_stream long (omega arith)) in
          let i : q ≤ most = ⊎_elim (λ j. j) (λ j. let o : most < long = rw k.is at (walked_beyond g most stream (none ++ room) after q h j) in absurd (omega arith)) (le_or_lt q most) in
          let u : after ≡ sets room 0 (plain (measure_of W H) stream) = rw (k.is, no_bytes none z) at (walked_plain g most stream (none ++ room) after q h i).held in
          let v = sets-eq (plain (measure_of W H) stream) room 0 (rw zero-add (omega arith)) in
          promised (translated (Ok n)) after (rw (k.allows, y, t, e)) (rw (k.allows, y, t) (u ∙ rw zero-add at v))
