-- `dot_paint::paint_lines` meets its contract: the page rows before byte a are painted. Assumes nothing.
use Rattle.dot_paint.proofs.Covers.{Covering}
use Rattle.dot_paint.proofs.paint_lines.Given as goal

abbrev pub invariant-loop : goal.invariant-loop
invariant-loop l = Covering l.wide l.row l.dots l.from l.lines l.initial.page l.page l.a l.counter
