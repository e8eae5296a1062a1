-- A place is written and the rest of the number is left, until nothing is.
use Rattle.std.proofs.Common.{rules}
use Rattle.number_write.proofs.Places.{low_first}
use Rattle.number_write.proofs.Writing.{leaving_start, leaving_again, leaving_end}
use Rattle.number_write.proofs.write_places.Goals as goal

pub loop-unit-init : goal.loop-unit-init
loop-unit-init c = leaving_start _ _ c.requires.0 c.requires.1

pub first_place-requires : goal.first_place-requires
first_place-requires c = low_first _ _ c.loop-unit-test.true c.loop-unit.invariant.low

pub loop-unit-preserved : goal.loop-unit-preserved
loop-unit-preserved c = leaving_again c.loop-unit.invariant c.loop-unit-test.true (search rules) c.first_place.ensures c.put.ensures

pub returns : goal.returns
returns c = leaving_end c.loop-unit.invariant c.loop-unit-test.false c.loop-unit.auto.unit-index-end
