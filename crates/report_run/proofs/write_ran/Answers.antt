-- The line of the finding, and that of the page behind it.
use Rattle.rules.specs.Run.{carried}
use Rattle.report_laws.proofs.Reporting.{wrote_ran}
use Rattle.report_run.proofs.write_ran.Goals as goal

pub returns : goal.returns
returns c = wrote_ran _ (carried c.args.o) _ c.write_fault.ensures c.write_page_if.ensures
