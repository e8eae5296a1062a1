-- The pages that are still to be written.
use Rattle.std.specs.Prelude.{ℕ, List, []}
use Rattle.rules.specs.declared.Measure.{Measure}
use Rattle.rules.specs.declared.State.{State}
use Rattle.rules.specs.Acts.{world, show_all}
use Rattle.rules.specs.Run.{trace, enough, acts_of}
use Rattle.pages_step.specs.Sheets.{page_sheets}

-- the pages of s, what is left of a stream, where p is the page that is being drawn
unfoldable pub pages_left : Measure → State → List ℕ → List ℕ → List (List ℕ)
pages_left g t s p = page_sheets (show_all g (acts_of (trace g (enough s) t s).items) (world t.core p []))
