-- What stands before the pages of a job s on a page of W by H dots: the first lines of its report, and the head of a page.
use Rattle.std.specs.Prelude.{◌≡◌, ℕ, Bool, cond, not, ◌||◌, List, [], ◌∷◌, Option, Some, None}
use Rattle.common.specs.Stores.{Holds}
use Rattle.rules.specs.declared.Refusal.{Refusal}
use Rattle.rules.specs.declared.Refusal.TheVariants.{PageMeasure, StreamLength}
use Rattle.rules.specs.Measure.{allowed, is_too_long}
use Rattle.rules.specs.Plain.{decimal}
use Rattle.rules.specs.Report.{line, SIZE, refused_line}
use Rattle.report_verdict.specs.declared.Saying.{Saying}

-- the longest head: two numbers of twenty digits
abbrev pub longest_head : ℕ
longest_head = 45

-- the longest lines of a step: FAULT (48), MARK (89) and PAGE (47), all numbers of twenty digits
abbrev pub longest_lines : ℕ
longest_lines = 184

-- ---- pages
-- the head of a page as PBM has it: P4, LF, the width, a space, the height, LF
abbrev pub pbm_head : ℕ → ℕ → List ℕ
pbm_head W H = 80 ∷ 52 ∷ 10 ∷ decimal W (32 ∷ decimal H (10 ∷ []))

-- ---- refusals: 10, then 12
abbrev pub job_refused : ℕ → ℕ → List ℕ → Bool
job_refused W H s = not (allowed W H) || is_too_long s

-- why a job is refused, the measure first
abbrev pub refusal_of : ℕ → ℕ → List ℕ → Option Refusal
refusal_of W H s = cond (not (allowed W H)) (Some PageMeasure) (cond (is_too_long s) (Some StreamLength) None)

-- its line, if there is one
abbrev pub refusal_line : Option Refusal → List ℕ
refusal_line None = []
refusal_line (Some why) = refused_line why

-- ---- before the first step: SIZE, and the refusal if there is one
abbrev pub first_lines : ℕ → ℕ → List ℕ → List ℕ
first_lines W H s = line SIZE (W ∷ H ∷ []) (cond (not (allowed W H)) (refused_line PageMeasure) (cond (is_too_long s) (refused_line StreamLength) []))

pub record Begins (W H : ℕ) (s room : List ℕ) (r : Saying) (after : List ℕ) : Type 0 where
  pub refused : r.refused ≡ job_refused W H s
  pub holds : Holds longest_lines (first_lines W H s) room after r.end

-- two outcomes that the promises allow for one input are equal: of the head of a page, and of the first lines
abbrev pub OneHead : Type 0
OneHead = (W H : ℕ) (room after after' : List ℕ) (r r' : ℕ)
    → Holds longest_head (pbm_head W H) room after r → Holds longest_head (pbm_head W H) room after' r' → (r ≡ r') × (after ≡ after')

abbrev pub OneOpening : Type 0
OneOpening = (W H : ℕ) (s room : List ℕ) (r r' : Saying) (after after' : List ℕ)
    → Begins W H s room r after → Begins W H s room r' after' → (r ≡ r') × (after ≡ after')
