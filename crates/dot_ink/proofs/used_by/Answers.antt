-- `dot_ink::used_by` meets its contract: what is left is the row's front, and behind it the row has no ink. Assumes nothing.
use Rattle.dot_ink.proofs.Inks.{front_less}
use Rattle.dot_ink.proofs.used_by.Goals as goal

pub loop-front-preserved : goal.loop-front-preserved
loop-front-preserved g c =
    let k = c.in-Some.ensures.cases in
    front_less g.row.N _ _ _ _ _ c.loop-front.invariant k.0 k.1 k.2 c.is_blank.ensures c.if-not-is_blank.false
