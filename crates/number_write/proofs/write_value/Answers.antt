-- An absolute value is its size, a relative one its sign and its size.
use Rattle.common.proofs.Writing.{written_both}
use Rattle.rules.specs.Plain.{put_value}
use Rattle.number_write.proofs.write_value.Goals as goal

pub returns-in-Absolute : goal.returns-in-Absolute
unfolding put_value
returns-in-Absolute c = rw c.in-Absolute.is c.write_size.ensures

pub returns-in-Relative : goal.returns-in-Relative
unfolding put_value
returns-in-Relative c = rw (c.in-Relative.is, ← c.sign.ensures) (written_both c.put.ensures c.write_size-in-Relative.ensures)
