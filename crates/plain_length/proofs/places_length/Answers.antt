-- A place is counted and the rest of the number is left, until nothing is.
use Rattle.std.proofs.Common.{arith}
use Rattle.plain_length.proofs.Counting.{remaining_start, remaining_again, remaining_end}
use Rattle.plain_length.proofs.places_length.Goals as goal

pub loop-unit-init : goal.loop-unit-init
loop-unit-init c = remaining_start _ c.requires

pub overflow_add-count : goal.overflow_add-count
overflow_add-count c = omega (arith, c.loop-unit.invariant.so_far, c.loop-unit-test.true)

pub loop-unit-preserved : goal.loop-unit-preserved
loop-unit-preserved c = remaining_again c.loop-unit.invariant c.loop-unit-test.true c.if-left-eq0.false

pub returns : goal.returns
returns c = remaining_end c.loop-unit.invariant c.loop-unit-test.false c.loop-unit.auto.unit-index-end
