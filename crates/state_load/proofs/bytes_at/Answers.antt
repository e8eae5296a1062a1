-- `state_load::bytes_at` meets its contract. Assumes nothing.
use Rattle.std.proofs.Common.{rules, ◌+◌, get_or}
use Rattle.state_load.proofs.Tables.{made_table}
use Rattle.state_load.proofs.bytes_at.Goals as goal

pub returns : goal.returns
returns g c = made_table _ _ (λ i. get_or c.args.b.now (c.args.at + i) 0) _ (λ i y q k. search rules) _ 0 c.from_fn.ensures.items
