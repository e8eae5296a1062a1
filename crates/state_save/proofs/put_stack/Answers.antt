-- `state_save::put_stack` meets its contract. Assumes nothing.
use Rattle.std.proofs.Common.{arith}
use Rattle.rules.specs.Measure.{origin}
use Rattle.common.proofs.Writing.{written_none, written_both}
use Rattle.state_load.specs.Kept.{stack_bytes}
use Rattle.state_save.proofs.Places.{next_place}
use Rattle.state_save.proofs.put_stack.Goals as goal

pub loop-p-init : goal.loop-p-init
unfolding stack_bytes
loop-p-init c = written_none _ c.requires

pub loop-p-preserved : goal.loop-p-preserved
loop-p-preserved c = rw (next_place c.args.stack.now c.loop-p.p-index origin (omega arith)) (written_both c.loop-p.invariant c.put_spot.ensures)
