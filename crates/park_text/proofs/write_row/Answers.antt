-- `park_text::write_row` meets its contract. Assumes nothing.
use Rattle.common.proofs.Writing.{written_none, written_inside}
use Rattle.park_text.proofs.Texts.{pair_append}
use Rattle.park_text.proofs.Writing.{each_start, each_again, each_end, written_row}
use Rattle.park_text.proofs.write_row.Goals as goal

pub loop-b-init : goal.loop-b-init
loop-b-init c = each_start _ _ (written_none _ (written_inside c.put_all.ensures))

pub loop-b-preserved : goal.loop-b-preserved
loop-b-preserved c = each_again pair_append c.loop-b.invariant _ c.loop-b-test.true c.write_pair.ensures

pub returns : goal.returns
returns c = written_row c.args.bytes.now c.put_all.ensures (each_end pair_append c.loop-b.invariant c.loop-b-test.false) c.put.ensures
