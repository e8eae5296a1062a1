-- `dot_slowly::Walk::seen` meets its contract. Assumes nothing.
use borrow.Author.Rules.{rules}
use Rattle.dot_slowly.proofs.Walking.{saw}
use Rattle.dot_slowly.proofs.Walk.seen.Goals as goal

pub returns : goal.returns
returns c = search (saw, rules)
