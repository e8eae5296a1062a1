-- A program's answer, made again of what it says. Assumes nothing.
use mathlib.Core.Path.{◌≡◌, refl, ap, sym, ◌∙◌}
use Prim.Native.Nat.{ℕ}
use Rattle.std.specs.Prelude.{Result, Ok, Err}
use Rattle.rules.specs.declared.Refusal.{Refusal}
use Rattle.rules.specs.declared.State.{State}
use Rattle.rules.specs.declared.Progress.{Progress}
use Rattle.rules.specs.Given.{Verdict, Carried, Refused, Ran, Translated}
use Rattle.rules.specs.Run.{ran}
use Rattle.rules.specs.Plain.{translated}
use Rattle.theorems.specs.Statements.{OneRanAnswer, OneTranslatedAnswer}

-- an answer is carried out, with what there is then, or refused
abbrev pub answer_by : {A : Type 0} → Verdict → A → Result A Refusal
answer_by Carried a = Ok a
answer_by (Refused why) a = Err why

-- ---- a run
abbrev progress_of : Ran → Progress
progress_of r = record { state = r.state; place = r.place; finding = r.finding; found = r.found; began = r.began; ended = r.ended; done = r.done }

abbrev ran_again : Ran → Result Progress Refusal
ran_again r = answer_by r.verdict (progress_of r)

ran_back : (t : State) (at : ℕ) (r : Result Progress Refusal) → ran_again (ran t at r) ≡ r
ran_back t at (Ok o) = refl
ran_back t at (Err why) = refl

pub one_ran_answer : OneRanAnswer
one_ran_answer t at r r' e = sym (ran_back t at r) ∙ ap ran_again e ∙ ran_back t at r'

-- ---- a translation
abbrev translated_again : Translated → Result ℕ Refusal
translated_again r = answer_by r.verdict r.length

translated_back : (r : Result ℕ Refusal) → translated_again (translated r) ≡ r
translated_back (Ok n) = refl
translated_back (Err why) = refl

pub one_translated_answer : OneTranslatedAnswer
one_translated_answer r r' e = sym (translated_back r) ∙ ap translated_again e ∙ translated_back r'
