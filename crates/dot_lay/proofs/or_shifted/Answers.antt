-- `dot_lay::or_shifted` meets its contract: the bytes from 1 up to j are or-ed, then the first, then the one behind the source. Assumes nothing.
use native.Mathlib.Omega.{arith}
use borrow.Author.Rules.{rules}
use Rattle.dot_lay.proofs.Windows.{shifting_none, shifting_starts, shifting_next, shifted_whole, shifted_past}
use Rattle.dot_lay.proofs.or_shifted.Goals as goal

pub returns-then-n-eq0 : goal.returns-then-n-eq0
returns-then-n-eq0 c = search (shifting_none, rules)

pub loop-j-init : goal.loop-j-init
loop-j-init c = shifting_starts _ _ _

pub loop-j-preserved : goal.loop-j-preserved
loop-j-preserved c = shifting_next _ _ _ _ _ _ _ c.loop-j.invariant (omega arith) (omega arith) (omega arith) c.window.ensures

pub returns-then-n-part : goal.returns-then-n-part
returns-then-n-part c =
    shifted_past _ _ _ _ c.loop-j.j _ _ _ c.loop-j.invariant c.min-n.ensures (omega arith) (omega arith) (omega arith) c.window-2.ensures (omega arith) c.window-then-n-part.ensures

pub returns-else-n-part : goal.returns-else-n-part
returns-else-n-part c = shifted_whole _ _ _ _ c.loop-j.j _ _ c.loop-j.invariant c.min-n.ensures (omega arith) (omega arith) (omega arith) c.window-2.ensures (omega arith)
