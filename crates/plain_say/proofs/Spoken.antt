-- What is said of a stream stands in the room. Assumes nothing.
use mathlib.Core.Path.{◌≡◌, refl}
use mathlib.Core.Bool.{Bool, true, false, cond, not, ◌||◌}
use mathlib.Core.List.{List, ◌++◌}
use Prim.Native.Nat.{ℕ}
use lib.Dec.{ltb}
use lib.ListN.{length, drop}
use borrow.Author.Tests.{ltb-false}
use Rattle.rules.specs.declared.Refusal.TheVariants.{PageMeasure, StreamLength, Room}
use Rattle.std.specs.Prelude.{Result, Ok, Err}
use Rattle.rules.specs.declared.Refusal.{Refusal}
use Rattle.rules.specs.Given.{Carried, verdict_of}
use Rattle.rules.specs.Measure.{allowed, measure_of, is_too_long}
use Rattle.rules.specs.Plain.{plain, Translation, translation, refused_room, no_room, translated, translate}
use Rattle.theorems.specs.Statements.{TranslatePromise}
use Rattle.report_verdict.specs.declared.Saying.{Saying}
use Rattle.report_verdict.specs.Said.{SaysVerdict, Leaves, length_of}
use Rattle.report_verdict.proofs.Spoken.{left_whole, said_of, one_said}
use Rattle.plain_say.specs.Said.{Says, OneSaying}

module _ (W H : ℕ) (s room : List ℕ) where
  abbrev text : List ℕ
  text = plain (measure_of W H) s

  or_left : (t u : Bool) → (t || u) ≡ false → t ≡ false
  or_left true u h = h
  or_left false u h = refl

  -- a translation by its verdict: the plain stream in the room, or the room as it was
  abbrev Left : Translation → Type 0
  Left o = Leaves text room o.given.verdict o.given.length o.room

  left_there : Left (translate W H s room)
  unfolding translate
  left_there = go (not (allowed W H)) (is_too_long s) (no_room text room) refl
    where
      go : (a b t : Bool) → no_room text room ≡ t
          → Left (cond a (refused_room PageMeasure room) (cond b (refused_room StreamLength room) (cond t (refused_room Room room) (translation Carried (length text) (text ++ drop (length text) room)))))
      go true b t e = refl
      go false true t e = refl
      go false false true e = refl
      go false false false e = left_whole text room (ltb-false (length room) (length text) (or_left (ltb (length room) (length text)) (is_too_long text) e))

  -- the verdict and the length that a program gives are those of the translation
  told : (o : Result ℕ Refusal) (left : List ℕ) (r : Saying) (after : List ℕ) → SaysVerdict (verdict_of o) (length_of o) left r after → SaysVerdict (translated o).verdict (translated o).length left r after
  told (Ok n) left r after y = y
  told (Err why) left r after y = y

  -- what is said by its answer is said of the plain stream
  pub plain_said : (o : Result ℕ Refusal) (left : List ℕ) (r : Saying) (after : List ℕ) → TranslatePromise W H s room (translated o) left → SaysVerdict (verdict_of o) (length_of o) left r after → Says W H s room r after
  plain_said o left r after h y = said_of _ _ text room (translate W H s room).room r after left_there (rw (h.given, h.lent) at (told o left r after y))

-- one saying
pub one_saying : OneSaying
one_saying W H s room r r' after after' p q = one_said r r' after after' p q
