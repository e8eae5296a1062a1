-- A head is four bytes and a count.
use Rattle.plain_head.proofs.Heads.{head_counted}
use Rattle.plain_head.proofs.head_length.Goals as goal

pub returns : goal.returns
returns c = head_counted _ _ c.decimal_length.ensures
