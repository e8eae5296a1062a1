-- `run_items::run_items` meets its contract. Assumes nothing.
use mathlib.Core.Path.{◌≡◌}
use Prim.Native.Nat.{◌-◌}
use lib.ListN.{drop}
use Rattle.rules.specs.States.{state_of}
use Rattle.rules.specs.Run.{run_from}
use Rattle.state_pen.specs.Pens.{core_of}
use Rattle.run_items.specs.Stops.{no_stop}
use Rattle.run_items.proofs.Turns.{Going}
use Rattle.run_items.proofs.run_items.Given as goal

abbrev pub invariant-loop-done : goal.invariant-loop-done
invariant-loop-done l = record {
  going : Going l.g l.s l.allowance (run_from l.g l.allowance 0 l.place l.fn.t l.initial.page (drop l.place l.s)) (state_of (core_of l.pen l.stack l.seed) l.beside l.sequence) l.at l.done l.initial.page l.page;
  unstopped : l.stop ≡ no_stop;
}

abbrev pub decreases-loop-done : goal.decreases-loop-done
decreases-loop-done l = l.allowance - l.done
