-- `dot_lay::lay` meets its contract. Assumes nothing.
use borrow.Author.Rules.{rules}
use Rattle.dot_lay.proofs.Laying.{at_none, at_plain, at_shifted}
use Rattle.dot_lay.proofs.lay.Goals as goal

pub returns-then-part-a : goal.returns-then-part-a
returns-then-part-a c = at_none _ _ _ (λ i. (c.type_inv.src i).fits) (λ i. (c.type_inv.part i).fits) c.if-part-a.true

pub returns-then-s-eq0 : goal.returns-then-s-eq0
returns-then-s-eq0 c =
    at_plain c.args.src.now c.args.from c.args.part.now (λ i. (c.type_inv.src i).fits) (λ i. search rules) _ c.if-s-eq0.true c.if-part-a.false c.or_bytes.ensures

pub returns : goal.returns
returns c =
    at_shifted c.args.src.now c.args.from c.args.part.now (λ i. (c.type_inv.src i).fits) (λ i. search rules) _ c.if-part-a.false c.or_shifted.ensures
