-- `park_text::write_positions` meets its contract. Assumes nothing.
use Rattle.park_text.proofs.Texts.{position_append}
use Rattle.park_text.proofs.Writing.{each_start, each_again, each_end}
use Rattle.park_text.proofs.write_positions.Goals as goal

pub loop-p-init : goal.loop-p-init
loop-p-init c = each_start _ _ c.settle.ensures

pub loop-p-preserved : goal.loop-p-preserved
loop-p-preserved c = each_again position_append c.loop-p.invariant _ c.loop-p-test.true c.write_position.ensures

pub returns : goal.returns
returns c = each_end position_append c.loop-p.invariant c.loop-p-test.false
