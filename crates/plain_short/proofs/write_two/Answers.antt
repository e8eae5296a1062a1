-- Two bytes are one behind the other.
use Rattle.std.proofs.Common.{[], ◌∷◌}
use Rattle.plain_short.proofs.Bytes.{puts_both}
use Rattle.plain_short.proofs.write_two.Goals as goal

pub returns : goal.returns
returns c = puts_both (27 ∷ []) (c.args.b ∷ []) c.write_one-next.ensures c.write_one.ensures
