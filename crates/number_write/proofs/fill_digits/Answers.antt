-- A digit goes to its place, and those before it are left.
use Rattle.std.proofs.Common.{arith}
use Rattle.number_write.proofs.Writing.{filling_start, filling_more, filling_again, filling_end}
use Rattle.number_write.proofs.fill_digits.Goals as goal

pub loop-left-init : goal.loop-left-init
loop-left-init c = filling_start _ _ c.ranges.n.fits c.told-digits

pub overflow_sub-i : goal.overflow_sub-i
overflow_sub-i c = filling_more _ _ _ _ c.loop-left.invariant c.loop-left-test.true

pub loop-left-preserved : goal.loop-left-preserved
loop-left-preserved c = filling_again _ _ _ _ c.loop-left.invariant c.loop-left-test.true

pub returns : goal.returns
returns c = (filling_end _ _ _ _ c.loop-left.invariant c.loop-left-test.false, omega (arith, c.loop-left.invariant.inside))
