-- `door::rov_dots` meets its contract. Assumes nothing.
use mathlib.Core.Path.{refl}
use borrow.Author.Rules.{rules}
use Rattle.door.proofs.Told.{dots_not, dots_short, page_few, dots_told}
use Rattle.door.proofs.rov_dots.Goals as goal

pub returns-in_default : goal.returns-in_default
returns-in_default c = search (dots_not, rules)

pub returns-then-page-n : goal.returns-then-page-n
returns-then-page-n c = dots_short _ _ _ c.page_of.ensures _ c.in-Some.is _ _ (rw (c.high.ensures, c.wide.ensures) refl) c.if-page-n.true

pub count-requires : goal.count-requires
count-requires c = page_few _ _ _ c.page_of.ensures _ c.in-Some.is _ _ (rw (c.high.ensures, c.wide.ensures) refl)

pub returns : goal.returns
returns c = dots_told _ _ _ c.page_of.ensures _ c.in-Some.is _ _ (rw (c.high.ensures, c.wide.ensures) refl) _ c.if-page-n.false c.count.ensures
