-- `report_write::write_lines` meets its contract. Assumes nothing.
use Rattle.std.proofs.Common.{[], ◌∷◌, length, lt-ltb, le-ltb}
use Rattle.common.proofs.Writing.{written_both}
use Rattle.rules.specs.declared.Refusal.TheVariants.{StreamLength}
use Rattle.rules.specs.Report.{SIZE, report_limit, report_width, report_height, report_page, report, fault_alone, refused_line, stream_lines}
use Rattle.report_line.proofs.Texts.{line_append}
use Rattle.report_write.proofs.write_lines.Goals as goal

pub returns-then-s-gt-LIMIT : goal.returns-then-s-gt-LIMIT
unfolding report
returns-then-s-gt-LIMIT c =
    rw (lt-ltb report_limit (length c.args.s.now) c.if-s-gt-LIMIT.true, line_append SIZE (report_width ∷ report_height ∷ []) [] (refused_line StreamLength))
    (written_both c.write_size.ensures c.write_refused.ensures)

pub returns : goal.returns
unfolding report
returns c =
    rw (le-ltb report_limit (length c.args.s.now) c.if-s-gt-LIMIT.false, line_append SIZE (report_width ∷ report_height ∷ []) [] (stream_lines fault_alone report_page c.args.s.now))
    (written_both c.write_size.ensures c.write_stream.ensures)
