-- `park_text::stacked` meets its contract. Assumes nothing.
use Rattle.std.proofs.Common.{◌≡◌, length, rules}
use Rattle.common.proofs.Lists.{mapped}
use Rattle.park_text.proofs.Texts.{take_min}
use Rattle.park_text.proofs.stacked.Goals as goal

pub returns-clause-value : goal.returns-clause-value
returns-clause-value c =
    let e : length c.args.stack.now ≡ 20 = search (mapped, rules) in
    rw c.min.ensures (take_min c.args.depth 20 c.args.stack.now e)
