-- What is written before the pages of a job, and that the room is always large enough. Assumes nothing.
use Rattle.std.proofs.Common.{◌≡◌, refl, sym, ◌∙◌, ℕ, ◌+◌, ◌≤◌, arith, List, [], ◌∷◌, Bool, true, false, cond, not, ◌||◌, length, Option, Some, None, is_some}
use Rattle.common.specs.declared.writer.Writer.{Writer}
use Rattle.common.specs.Stores.{Wrote, Holds}
use Rattle.common.specs.Writing.{Written}
use Rattle.common.proofs.Choices.{choice}
use Rattle.common.proofs.Writing.{written_both}
use Rattle.rules.specs.declared.Refusal.{Refusal}
use Rattle.rules.specs.declared.Refusal.TheVariants.{PageMeasure, StreamLength}
use Rattle.rules.specs.Measure.{allowed, is_too_long}
use Rattle.rules.specs.Plain.{decimal}
use Rattle.rules.specs.Report.{fields, line, SIZE, refused_line}
use Rattle.number_write.proofs.Laws.{decimal_append, decimal_short}
use Rattle.report_laws.proofs.Bound.{number_length, two_length, refused_most}
use Rattle.report_laws.proofs.Whole.{held, held_once}
use Rattle.pages_open.specs.Opening.{longest_head, longest_lines, pbm_head, first_lines, job_refused, refusal_line, refusal_of, Begins, OneHead, OneOpening}

-- ---- how long
-- two numbers of at most twenty digits
pub two_most : (a b : ℕ) (s : List ℕ) → length (fields (a ∷ b ∷ []) s) ≤ 43 + length s
two_most a b s = let e = two_length a b s in let i = decimal_short a in let j = decimal_short b in omega arith

-- a head
head_most : (W H : ℕ) → length (pbm_head W H) ≤ longest_head
head_most W H =
    let a = number_length W (32 ∷ decimal H (10 ∷ [])) in
    let b = number_length H (10 ∷ []) in
    let i = decimal_short W in
    let j = decimal_short H in
    omega arith

-- the first lines
first_most : (W H : ℕ) (s : List ℕ) → length (first_lines W H s) ≤ longest_lines
first_most W H s = choice (λ l. length (line SIZE (W ∷ H ∷ []) l) ≤ longest_lines) (not (allowed W H)) (size PageMeasure)
    (choice (λ l. length (line SIZE (W ∷ H ∷ []) l) ≤ longest_lines) (is_too_long s) (size StreamLength) (let e = two_most W H [] in omega arith))
  where
    size : (why : Refusal) → length (line SIZE (W ∷ H ∷ []) (refused_line why)) ≤ longest_lines
    size why = let e = two_most W H (refused_line why) in let i = refused_most why in omega arith

-- ---- what is written
-- a head, piece by piece
pub wrote_head : {a b c d e f : Writer} (W H : ℕ) → Written a (80 ∷ 52 ∷ 10 ∷ []) b → Written b (decimal W []) c → Written c (32 ∷ []) d → Written d (decimal H []) e
    → Written e (10 ∷ []) f → Written a (pbm_head W H) f
wrote_head {b = b} {d = d} {f = f} W H p q s t u =
    let h : Written d (decimal H (10 ∷ [])) f = rw (decimal_append H [] (10 ∷ [])) (written_both t u) in
    let w : Written b (decimal W (32 ∷ decimal H (10 ∷ []))) f = rw (decimal_append W [] (32 ∷ decimal H (10 ∷ []))) (written_both q (written_both s h)) in
    written_both p w

-- it is there whole
pub head_held : {room after : List ℕ} {r : ℕ} (W H : ℕ) → Wrote room 0 (pbm_head W H) after r → Holds longest_head (pbm_head W H) room after r
head_held W H w = held (head_most W H) w

-- a job is refused where there is a reason, and its first lines tell that
refused_by : (W H : ℕ) (s : List ℕ) → (is_some (refusal_of W H s) ≡ job_refused W H s) × (first_lines W H s ≡ line SIZE (W ∷ H ∷ []) (refusal_line (refusal_of W H s)))
refused_by W H s = go (not (allowed W H)) (is_too_long s)
  where
    go : (a b : Bool)
        → (is_some (cond a (Some PageMeasure) (cond b (Some StreamLength) None)) ≡ (a || b))
        × (line SIZE (W ∷ H ∷ []) (cond a (refused_line PageMeasure) (cond b (refused_line StreamLength) []))
        ≡ line SIZE (W ∷ H ∷ []) (refusal_line (cond a (Some PageMeasure) (cond b (Some StreamLength) None))))
    go true b = (refl, refl)
    go false true = (refl, refl)
    go false false = (refl, refl)

-- SIZE, and what there is to refuse
pub begins : {room after : List ℕ} {r : ℕ} {t : Bool} (W H : ℕ) (s : List ℕ) (o : Option Refusal) → o ≡ refusal_of W H s → t ≡ is_some o
    → Wrote room 0 (line SIZE (W ∷ H ∷ []) (refusal_line o)) after r → Begins W H s room (record { refused = t; end = r }) after
begins W H s o e f w =
    let k = refused_by W H s in
    record { refused = f ∙ rw e k.0; holds = held (first_most W H s) (rw (k.1, ← e) w) }

-- ---- one outcome
pub one_head : OneHead
one_head W H room after after' r r' p q = held_once p q

pub one_opening : OneOpening
one_opening W H s room r r' after after' p q =
    let e = p.refused ∙ sym q.refused in
    let k = held_once p.holds q.holds in
    (λ j. record { refused = e j; end = k.0 j }, k.1)
