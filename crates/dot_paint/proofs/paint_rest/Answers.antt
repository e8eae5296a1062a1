-- `dot_paint::paint_rest` meets its contract. Assumes nothing.
use borrow.Author.Rules.{rules}
use Rattle.dot_paint.proofs.Covers.{lines_blank}
use Rattle.dot_paint.proofs.Alike.{lines_unmarked, lines_used}
use Rattle.dot_paint.proofs.paint_rest.Goals as goal

pub returns-then-dots-eq0 : goal.returns-then-dots-eq0
returns-then-dots-eq0 c = search (lines_blank, rules)

pub returns-then-e-eq0 : goal.returns-then-e-eq0
returns-then-e-eq0 c = lines_unmarked _ _ _ _ _ _ c.used-e.ensures c.if-e-eq0.true (λ i. (c.type_inv.page i).fits)

pub returns-else-contains : goal.returns-else-contains
returns-else-contains c = lines_used _ _ _ _ _ _ _ c.used-e.ensures c.paint_lines.ensures
