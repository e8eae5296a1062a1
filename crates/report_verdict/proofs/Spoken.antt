-- What is said by a verdict stands in the room. Assumes nothing.
use Rattle.std.proofs.Common.{◌≡◌, refl, sym, ap, ◌∙◌, Bool, List, ◌++◌, ℕ, ◌≤◌, zero-add, arith, length, drop}
use Rattle.std.proofs.lemmas.List.Edits.{sets-eq}
use Rattle.rules.specs.Given.{Verdict, Carried, Refused}
use Rattle.report_verdict.specs.declared.Saying.{Saying}
use Rattle.report_verdict.specs.Said.{SaysVerdict, Leaves, SaysText}

abbrev saying_of : Bool → ℕ → Saying
saying_of t n = record { refused = t; end = n }

-- a text as a call leaves it
pub left_whole : (text room : List ℕ) → length text ≤ length room → Leaves text room Carried (length text) (text ++ drop (length text) room)
left_whole text room l = (l, refl, sym (rw zero-add at (sets-eq text room 0 (rw zero-add l))))

-- what is said behind a call is said of its text, in the room as it was before the call
pub said_of : (v : Verdict) (n : ℕ) (text room left : List ℕ) (r : Saying) (after : List ℕ) → Leaves text room v n left → SaysVerdict v n left r after → SaysText v text room r after
said_of Carried n text room left r after h y =
    let l = h.0 in
    let e = h.1 in
    let k = y.ended.0 in
    record { refused = y.refused; text = record { next = omega arith; held = y.ended.1 ∙ h.2 } }
said_of (Refused why) n text room left r after h y = record { refused = y.refused; text = rw h at y.ended }

-- one saying: two that are said of one text by one verdict are equal, and so is every byte of the room
pub one_said : {v : Verdict} {text room : List ℕ} (r r' : Saying) (after after' : List ℕ) → SaysText v text room r after → SaysText v text room r' after' → (r ≡ r') × (after ≡ after')
one_said r r' after after' p q =
    let e : r.refused ≡ r'.refused = p.refused ∙ sym q.refused in
    let f : r.end ≡ r'.end = p.text.next ∙ sym q.text.next in
    (ap (λ t. saying_of t r.end) e ∙ ap (saying_of r'.refused) f, p.text.held ∙ sym q.text.held)
