-- `dot_paint::paint` meets its contract. Assumes nothing.
use native.Mathlib.Omega.{arith}
use borrow.Author.Rules.{rules}
use Rattle.dot_paint.proofs.Covers.{painted_narrow, painted_below, painted_rest, line_inside}
use Rattle.dot_paint.proofs.paint.Goals as goal

pub returns-then-wide-eq0 : goal.returns-then-wide-eq0
returns-then-wide-eq0 c = search (painted_narrow, rules)

pub returns-then-page-wide : goal.returns-then-page-wide
returns-then-page-wide c = search (painted_below, rules)

pub overflow_mul-a : goal.overflow_mul-a
overflow_mul-a c = omega (arith, line_inside c.args.wide c.args.line c.args.page.now c.if-page-wide.false)

pub slice_bounds-paint_rest-count : goal.slice_bounds-paint_rest-count
slice_bounds-paint_rest-count c = search (line_inside, rules)

pub slice_bounds-paint_rest-start : goal.slice_bounds-paint_rest-start
slice_bounds-paint_rest-start c = search (line_inside, rules)

pub returns : goal.returns
returns c = search (painted_rest, rules)
