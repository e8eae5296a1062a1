-- `plain_stream::write_text` meets its contract. Assumes nothing.
use Prim.Native.Nat.{◌+◌, ◌-◌}
use native.Mathlib.Omega.{arith}
use lib.ListN.{length-take}
use Rattle.plain_stream.proofs.Runs.{run_short, run_wanted}
use Rattle.plain_stream.proofs.write_text.Goals as goal

pub returns : goal.returns
returns c =
    let k = run_wanted c.args.s.now c.text_run-n.result c.min.result (c.args.most - c.args.end + 1) c.saturating_add-wanted.result c.text_run-n.ensures.0 c.min.ensures (omega (arith, c.saturating_add-wanted.ensures)) (omega arith) in (
      k,
      record { next = omega (arith, k, run_short c.args.s.now, length-take c.text_run-n.result c.args.s.now); held = c.copy.ensures },
    )
