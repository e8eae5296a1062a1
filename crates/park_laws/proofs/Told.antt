-- A program's answer, made again of what it says. Assumes nothing.
use mathlib.Core.Path.{◌≡◌, refl, ap, sym, ◌∙◌}
use Prim.Native.Nat.{ℕ}
use Rattle.std.specs.Prelude.{Result, Ok, Err}
use Rattle.rules.specs.declared.Refusal.{Refusal}
use Rattle.rules.specs.declared.Stored.{Stored}
use Rattle.rules.specs.Given.{Parking, Unparked}
use Rattle.rules.specs.Park.{parking, unparked}
use Rattle.theorems.proofs.Told.{answer_by}
use Rattle.park_laws.specs.Statements.{OneParkingAnswer, OneUnparkedAnswer}

-- ---- a parking
abbrev parking_again : Parking → Result ℕ Refusal
parking_again r = answer_by r.verdict r.length

parking_back : (r : Result ℕ Refusal) → parking_again (parking r) ≡ r
parking_back (Ok n) = refl
parking_back (Err why) = refl

pub one_parking_answer : OneParkingAnswer
one_parking_answer r r' e = sym (parking_back r) ∙ ap parking_again e ∙ parking_back r'

-- ---- a text read
abbrev stored_of : Unparked → Stored
stored_of r = record { wide = r.wide; high = r.high; state = r.state }

abbrev unparked_again : Unparked → Result Stored Refusal
unparked_again r = answer_by r.verdict (stored_of r)

unparked_back : (r : Result Stored Refusal) → unparked_again (unparked r) ≡ r
unparked_back (Ok j) = refl
unparked_back (Err why) = refl

pub one_unparked_answer : OneUnparkedAnswer
one_unparked_answer r r' e = sym (unparked_back r) ∙ ap unparked_again e ∙ unparked_back r'
