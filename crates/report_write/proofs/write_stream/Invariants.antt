-- `report_write::write_stream` meets its contract. The invariant: with the lines that are left all are written; the measure: what is left to read.
-- Assumes nothing.
use Rattle.theorems.proofs.Reading.{left}
use lib.ListN.{drop}
use Rattle.dot_page.specs.Zeros.{FirstZero}
use Rattle.report_laws.proofs.Reporting.{Reporting}
use Rattle.report_write.proofs.write_stream.Given as goal

abbrev pub invariant-loop-o : goal.invariant-loop-o
invariant-loop-o l = record {
  reporting : Reporting 640 800 l.s l.initial.out l.page l.out l.state l.place l.number l.findings;
  known : FirstZero l.zeros l.page;
}

abbrev pub decreases-loop-o : goal.decreases-loop-o
decreases-loop-o l = left l.state.sequence (drop l.place l.s)
