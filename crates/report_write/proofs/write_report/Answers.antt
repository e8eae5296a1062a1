-- `report_write::write_report` meets its contract. Assumes nothing.
use borrow.Author.Rules.{rules}
use Rattle.report_laws.proofs.Bound.{reports_fit}
use Rattle.report_laws.proofs.Whole.{held}
use Rattle.report_write.proofs.write_report.Goals as goal

pub returns : goal.returns
returns c = held (reports_fit c.args.s.now) (search rules)
