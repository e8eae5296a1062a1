-- What the program `pages` writes of a job s on a page of W by H dots: the pages, as PBM, and the report's lines.
use Rattle.std.specs.Prelude.{◌≡◌, ℕ, cond, not, List, [], ◌∷◌, ◌++◌, length, replicate}
use Rattle.rules.specs.declared.Measure.{Measure}
use Rattle.rules.specs.declared.Refusal.TheVariants.{PageMeasure, StreamLength}
use Rattle.rules.specs.Measure.{allowed, measure_of, page_bytes, is_too_long}
use Rattle.rules.specs.Acts.{World}
use Rattle.rules.specs.Run.{pages}
use Rattle.rules.specs.Report.{line, SIZE, stream_lines, refused_line}
use Rattle.pages_mark.specs.Marks.{marked}
use Rattle.pages_open.specs.Opening.{pbm_head, job_refused}

-- ---- pages
-- a page as PBM: its head, and its bytes as the page buffer has them
abbrev pub pbm : ℕ → ℕ → List ℕ → List ℕ
pbm W H p = pbm_head W H ++ p

-- pages, one after the other
unfoldable pub pbms : ℕ → ℕ → List (List ℕ) → List ℕ
pbms W H [] = []
pbms W H (p ∷ l) = pbm W H p ++ pbms W H l

-- the pages that were handed over, in order, and the one that is left, if it is used
abbrev pub page_sheets : World → List (List ℕ)
page_sheets w = w.handed ++ cond w.core.used (w.page ∷ []) []

-- ---- the whole
-- standard output
abbrev pub job_pages : ℕ → ℕ → List ℕ → List ℕ
job_pages W H s = cond (job_refused W H s) [] (pbms W H (page_sheets (pages (measure_of W H) s)))

-- the lines of standard error: "SIZE, W, H; in item order FAULT .., and PAGE ..; a used last page too; then END", as the report has them, with MARK behind
-- each FAULT
abbrev pub job_lines : ℕ → ℕ → List ℕ → List ℕ
job_lines W H s =
    let lines = cond (is_too_long s) (refused_line StreamLength) (stream_lines marked (measure_of W H) s) in
    line SIZE (W ∷ H ∷ []) (cond (not (allowed W H)) (refused_line PageMeasure) lines)

-- ---- a reader of PBM finds each page where the one before ends: all have H rows of W/8 bytes
-- the lengths of pages
unfoldable pub sizes : List (List ℕ) → List ℕ
sizes [] = []
sizes (p ∷ l) = length p ∷ sizes l

abbrev pub PagesAreWhole : Type 0
PagesAreWhole = (g : Measure) (s : List ℕ) → sizes (page_sheets (pages g s)) ≡ replicate (length (page_sheets (pages g s))) (page_bytes g)
