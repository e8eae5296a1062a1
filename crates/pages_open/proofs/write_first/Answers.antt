-- The line of the refusal stands behind SIZE.
use Rattle.std.proofs.Common.{[], ◌∷◌}
use Rattle.common.proofs.Writing.{written_both}
use Rattle.rules.specs.Report.{SIZE, refused_line}
use Rattle.report_line.proofs.Texts.{line_append}
use Rattle.pages_open.proofs.write_first.Goals as goal

pub returns-in-Some : goal.returns-in-Some
returns-in-Some c =
    rw (c.in-Some.is, line_append SIZE (c.args.w ∷ c.args.h ∷ []) [] (refused_line c.in-Some.why))
    (written_both c.write_size.ensures c.write_refused.ensures)
