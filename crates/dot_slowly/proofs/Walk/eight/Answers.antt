-- `dot_slowly::Walk::eight` meets its contract: after so many turns so many dots are packed. Assumes nothing.
use borrow.Author.Rules.{rules}
use Rattle.dot_slowly.proofs.Walking.{packing_starts, packing_again, packing_ends}
use Rattle.dot_slowly.proofs.Walk.eight.Goals as goal

pub loop-init : goal.loop-init
loop-init c = search (packing_starts, rules)

pub loop-preserved : goal.loop-preserved
loop-preserved c = search (packing_again, rules)

pub returns : goal.returns
returns c = search (packing_ends, rules)
