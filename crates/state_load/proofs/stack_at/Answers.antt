-- `state_load::stack_at` meets its contract. Assumes nothing.
use Rattle.std.proofs.Common.{rules, ◌+◌, ◌*◌}
use Rattle.rules.specs.Measure.{origin}
use Rattle.state_load.specs.Kept.{spot_at}
use Rattle.state_load.proofs.Tables.{made_table}
use Rattle.state_load.proofs.stack_at.Goals as goal

pub returns : goal.returns
returns c = made_table _ _ (λ i. spot_at c.args.b.now (48 + 8 * i)) _ (λ i y q k. search rules) 20 origin c.from_fn.ensures.items
