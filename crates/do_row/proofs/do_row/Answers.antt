-- `do_row::do_row` meets its contract. Assumes nothing.
use borrow.Author.Rules.{rules}
use Rattle.do_row.proofs.Drawing.{row_barred, row_deed}
use Rattle.do_row.proofs.do_row.Goals as goal

pub returns-then-whole_negative : goal.returns-then-whole_negative
returns-then-whole_negative c = row_barred _ _ _ _ _ _ _ _ _ c.whole_negative.ensures c.if-whole_negative.true c.kept.ensures

pub returns : goal.returns
returns c = row_deed _ _ _ _ _ _ _ _ _ _ _ _ _ _ _ _ (search rules) c.requires (search rules) c.whole_negative.ensures c.if-whole_negative.false c.begun_raster-raster.ensures c.row_at-at.ensures c.begin_seed.ensures (rw c.wide.ensures at c.decode-intact.ensures) c.paint_row.ensures c.row_finding.ensures c.kept-2.ensures
