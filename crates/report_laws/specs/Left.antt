-- The lines of a stream that are still to be printed, and what a run prints of them: the report's, or those of a program that says more of a finding.
use Rattle.std.specs.Prelude.{ℕ, ◌+◌, cond, List, [], ◌∷◌}
use Rattle.common.specs.Bits.{ones_all}
use Rattle.rules.specs.declared.Measure.{Measure}
use Rattle.rules.specs.declared.State.{State}
use Rattle.rules.specs.Given.{Ran}
use Rattle.rules.specs.Measure.{blank}
use Rattle.rules.specs.Acts.{world}
use Rattle.rules.specs.Run.{trace, enough}
use Rattle.rules.specs.Report.{line, PAGE, Saying, told, faults, item_lines}

-- the page that is being drawn: an unused one is blank, whatever the buffer holds
abbrev pub page_now : Measure → State → List ℕ → List ℕ
page_now g t buffer = cond t.core.used buffer (blank g)

-- the lines of s, what is left of the stream from the place `at` on: `number` is the number of the page p, which is being drawn,
-- and n findings were before
unfoldable pub lines_left : Saying → Measure → State → List ℕ → ℕ → ℕ → List ℕ → ℕ → List ℕ
lines_left say g t s at number p n =
    let l = (trace g (enough s) t s).items in
    item_lines say g l at number (world t.core p []) (n + faults l)

-- what a run that left the page p prints, in front of s: its finding, and the page that it ended
abbrev pub printed : Saying → ℕ → Ran → List ℕ → List ℕ → List ℕ
printed say number o p s = told say o.began o.found o.finding (cond o.ended (line PAGE (number ∷ ones_all p ∷ []) s) s)
