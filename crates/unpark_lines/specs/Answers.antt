-- What the answers of this crate's functions stand for: what a reader of the rules finds in the bytes, and what is left of them.
use Rattle.std.specs.Prelude.{Option, Some, None, Bool, true, cond, List, ℕ, min}
use Rattle.std.proofs.lemmas.List.Edits.{sets}
use Rattle.rules.specs.declared.Spot.{Spot}
use Rattle.rules.specs.Measure.{spot}
use Rattle.rules.specs.Texts.{Found, wrong, found, then, field, fitting, position}

-- an answer, and the bytes that are left behind it; None says that nothing of the form is there
abbrev pub heard : {A : Type 0} → Option A → List ℕ → Found A
heard (Some a) t = found a t
heard None t = wrong

-- an answer that says no more than that it is there
abbrev pub passed : Option Unit → List ℕ → Found Bool
passed (Some u) t = found true t
passed None t = wrong

-- a list as far as there is place for it, in an array that was blank
abbrev pub stored : {A : Type 0} → List A → Found (List A) → Found (List A)
stored blank wrong = wrong
stored blank (found l t) = found (sets blank 0 l) t

-- a field that fits what is asked of it
unfoldable pub kind_field : Bool → List ℕ → Found ℕ
kind_field flag s = then (field s) (λ n r. cond (fitting flag n) (found n r) wrong)

-- a number as a state keeps it: one beyond 32 bits, which no sound state has, is lowered
abbrev pub low : ℕ → ℕ
low n = min n 4294967295

abbrev pub low_spot : Spot → Spot
low_spot p = spot (low p.x) (low p.y)

-- a position so kept
unfoldable pub low_position : List ℕ → Found Spot
low_position s = then (position s) (λ p r. found (low_spot p) r)
