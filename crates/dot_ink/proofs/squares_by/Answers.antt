-- `dot_ink::squares_by` meets its contract: the squares of the first i bytes are made, and what is behind them is as it was. Assumes nothing.
use mathlib.Core.Path.{◌≡◌}
use Prim.Native.Nat.{◌+◌, ◌*◌, ◌≤◌}
use native.Mathlib.Omega.{arith}
use native.Mathlib.Nat.{mul-add, mul-one, mul-le-mul_left}
use lib.ListN.{length, get_or, take}
use lib.Seq.{length-take-le, get_or-take}
use Rattle.dot_ink.specs.Ink.{Spread}
use Rattle.dot_ink.proofs.Inks.{making_more}
use Rattle.dot_ink.proofs.squares_by.Goals as goal

pub loop-i-preserved : goal.loop-i-preserved
loop-i-preserved g c =
    let n = g.row.N in
    let i = c.loop-i.i in
    let row = c.args.row.now in
    let l : length (take c.args.n row) ≡ c.args.n = length-take-le c.args.n row (omega arith) in
    let h : i + 1 ≤ c.args.n = omega (arith, l) in
    let r : n * i + n ≤ length c.args.ink.now = omega (arith, mul-le-mul_left n h, mul-add n i 1, mul-one n) in
    let s : Spread n (get_or (take c.args.n row) i 0) c.spread.new.ink = c.spread.ensures in
    let t : Spread n (get_or row i 0) c.spread.new.ink = rw (get_or-take c.args.n row i 0 (omega arith)) at s in
    making_more row c.args.ink.now c.loop-i.ink c.spread.new.ink n i _ c.loop-i.invariant r (omega arith) t
