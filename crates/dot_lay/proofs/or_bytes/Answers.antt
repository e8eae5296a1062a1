-- `dot_lay::or_bytes` meets its contract: after j turns j bytes are or-ed. Assumes nothing.
use mathlib.Core.Path.{◌≡◌}
use native.Mathlib.Omega.{arith}
use lib.ListN.{length, get_or, take}
use lib.Seq.{length-take-le, get_or-take}
use Rattle.dot_lay.proofs.Laying.{laying_again, laying_ends}
use Rattle.dot_lay.proofs.or_bytes.Goals as goal

pub loop-j-preserved : goal.loop-j-preserved
loop-j-preserved c =
    let n = c.min-n.result in
    let src = c.args.src.now in
    let l : length (take n src) ≡ n = length-take-le n src (omega arith) in
    let b : get_or (take n src) c.loop-j.j 0 ≡ get_or src c.loop-j.j 0 = get_or-take n src c.loop-j.j 0 (omega (arith, l)) in
    rw b (laying_again _ src _ _ n c.loop-j.invariant c.min-n.ensures (omega (arith, l)))

pub returns : goal.returns
returns c =
    let n = c.min-n.result in
    let src = c.args.src.now in
    let l : length (take n src) ≡ n = length-take-le n src (omega arith) in
    laying_ends _ src _ _ n c.loop-j.invariant c.min-n.ensures (omega (arith, l))
