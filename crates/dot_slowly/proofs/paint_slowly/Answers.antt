-- `dot_slowly::paint_slowly` meets its contract: after j turns j bytes are painted. Assumes nothing.
use borrow.Author.Rules.{rules}
use Rattle.dot_slowly.proofs.Lines.{inking_ends, walking_starts, walking_laid}
use Rattle.dot_slowly.proofs.paint_slowly.Goals as goal

pub loop-j-init : goal.loop-j-init
loop-j-init c = (search (walking_starts, rules), λ i. (c.type_inv.part i).fits)

pub loop-j-preserved : goal.loop-j-preserved
loop-j-preserved c = (search (walking_laid, rules), λ i. (c.type_inv.part i).fits)

pub returns : goal.returns
returns c = search (inking_ends, rules)
