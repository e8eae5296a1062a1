-- How long a report can be, and what a room holds of it.
use Rattle.std.specs.Prelude.{◌≡◌, ℕ, ◌+◌, ◌*◌, ◌≤◌, List, length}
use Rattle.common.specs.Stores.{Holds}
use Rattle.rules.specs.Report.{report_limit, report}

-- There are at most two items to a byte. A FAULT line has at most 14 bytes: place and number have five digits and one. A PAGE line has
-- at most 33: six digits and twenty; but an item that ends a page takes a byte of its own. So 34 bytes to a byte of the input,
-- SIZE (13), a last page (33) and END (88: four numbers of twenty digits).
abbrev pub longest_report : ℕ
longest_report = 34 * report_limit + 13 + 33 + 88

-- a room of that many bytes holds the report of any input
abbrev pub ReportsFit : Type 0
ReportsFit = (s : List ℕ) → length (report s) ≤ longest_report

-- what is promised of a room in which the report of s was written, r the place behind it
abbrev pub Reported : List ℕ → List ℕ → List ℕ → ℕ → Type 0
Reported s before after r = Holds longest_report (report s) before after r

-- two outcomes that it allows for one input are equal
abbrev pub OneReport : Type 0
OneReport = (s before after after' : List ℕ) (r r' : ℕ) → Reported s before after r → Reported s before after' r' → (r ≡ r') × (after ≡ after')
