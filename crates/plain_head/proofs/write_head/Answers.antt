-- A head is three bytes, a count and a letter.
use Rattle.plain_head.proofs.Heads.{wrote_head}
use Rattle.plain_head.proofs.write_head.Goals as goal

pub returns : goal.returns
returns c = wrote_head _ _ _ _ c.write_start.ensures c.write_decimal.ensures c.put.ensures
