-- A head is written piece by piece.
use Rattle.pages_open.proofs.Holding.{wrote_head}
use Rattle.pages_open.proofs.write_pbm.Goals as goal

pub returns : goal.returns
returns c = wrote_head _ _ c.put_all.ensures c.write_decimal.ensures c.put.ensures c.write_decimal-2.ensures c.put-2.ensures
