-- `park_text::positions_length` meets its contract. Assumes nothing.
use Rattle.std.proofs.Common.{arith}
use Rattle.park_text.proofs.Counting.{counts_start, positions_count, positions_counted}
use Rattle.park_text.proofs.positions_length.Goals as goal

pub loop-p-init : goal.loop-p-init
loop-p-init c = counts_start _ _

pub overflow_add-count : goal.overflow_add-count
overflow_add-count c = let l = c.stacked-spots.ensures.few in let k = c.loop-p.invariant.small in omega arith

pub loop-p-preserved : goal.loop-p-preserved
loop-p-preserved c =
    positions_count c.stacked-spots.result.now c.loop-p.count c.loop-p.p-index c.loop-p.invariant _ c.position_length-count.result c.loop-p-test.true c.position_length-count.ensures

pub returns : goal.returns
returns c =
    let l = c.stacked-spots.ensures.few in
    rw c.stacked-spots.ensures.value at (positions_counted c.stacked-spots.result.now c.loop-p.count c.loop-p.p-index c.loop-p.invariant c.loop-p-test.false (omega arith))
