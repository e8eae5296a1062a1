-- A line is its word, its numbers, and LF.
use Rattle.common.proofs.Writing.{written_both}
use Rattle.report_line.proofs.Pieces.{listing_start, listing_again, listing_end}
use Rattle.report_line.proofs.write_line.Goals as goal

pub loop-n-init : goal.loop-n-init
loop-n-init c = listing_start _ _

pub loop-n-preserved : goal.loop-n-preserved
loop-n-preserved c = listing_again c.loop-n.invariant c.loop-n-test.true c.write_field.ensures

pub returns : goal.returns
returns c = written_both c.put_all.ensures (listing_end c.loop-n.invariant c.loop-n-test.false c.put.ensures)
