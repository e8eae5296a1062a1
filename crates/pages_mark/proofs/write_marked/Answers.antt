-- A finding has its line, and its mark behind it.
use Rattle.std.proofs.Common.{sym, ◌∙◌}
use Rattle.pages_mark.proofs.Marking.{wrote_marked}
use Rattle.pages_mark.proofs.write_marked.Goals as goal

pub returns : goal.returns
returns c =
    wrote_marked _ _ _ c.write_fault.ensures (sym c.is_clean.ensures ∙ c.if-is_clean.false)
    (rw c.finding_number-n.ensures at c.write_line.ensures)
