-- The line of the page stands in front of END, or nothing does.
use Rattle.std.proofs.Common.{[], ◌∷◌}
use Rattle.common.specs.Bits.{ones_all}
use Rattle.common.proofs.Writing.{written_both}
use Rattle.rules.specs.Report.{line, PAGE, END}
use Rattle.report_line.proofs.Texts.{line_append, cond_append}
use Rattle.report_page.proofs.write_last.Goals as goal

pub returns : goal.returns
returns c =
    let a = c.args in
    let numbers = a.number ∷ ones_all a.page.now ∷ [] in
    let end = line END (a.core.at.x ∷ a.core.at.y ∷ a.core.depth ∷ a.findings ∷ []) [] in
    rw (line_append PAGE numbers [] end, cond_append a.core.used (line PAGE numbers []) end)
    (written_both c.write_page_if.ensures c.write_end.ensures)
