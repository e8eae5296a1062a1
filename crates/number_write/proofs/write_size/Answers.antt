-- A size is its number alone, or its number, a point and places.
use Rattle.std.proofs.Common.{arith}
use Rattle.common.proofs.Writing.{written_inside}
use Rattle.number_write.proofs.Writing.{written_whole, written_point}
use Rattle.number_write.proofs.write_size.Goals as goal

pub returns-then-part-eq0 : goal.returns-then-part-eq0
returns-then-part-eq0 c = written_whole _ c.write_decimal.ensures c.if-part-eq0.true

pub write_places-requires : goal.write_places-requires
write_places-requires c = (omega arith, written_inside c.put.ensures)

pub returns : goal.returns
returns c = written_point _ c.write_decimal.ensures c.if-part-eq0.false c.put.ensures c.write_places.ensures
