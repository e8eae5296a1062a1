-- `dot_paint::paint_lines` meets its contract: the page rows before byte a are painted. Assumes nothing.
use borrow.Author.Rules.{rules}
use Rattle.dot_paint.proofs.Covers.{covering_starts, covering_again, covering_stops, covering_ends}
use Rattle.dot_paint.proofs.paint_lines.Goals as goal

pub loop-init : goal.loop-init
loop-init c = search (covering_starts, rules)

pub loop-preserved : goal.loop-preserved
loop-preserved c = search (covering_again, rules)

pub returns-then-page-a : goal.returns-then-page-a
returns-then-page-a c = search (covering_stops, rules)

pub returns : goal.returns
returns c = search (covering_ends, rules)
