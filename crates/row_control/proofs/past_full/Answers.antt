-- `row_control::past_full` meets its contract. Assumes nothing.
use Rattle.std.proofs.Common.{rules, tests, eqb, not, arith}
use Rattle.std.proofs.lemmas.Iterator.{YieldsList-from_slice}
use Rattle.std.proofs.lemmas.Iterator.Search.{position_from_yields_List}
use Rattle.std.proofs.lemmas.Slice.{between_to_end}
use Rattle.row_control.proofs.Whole.{passed}
use Rattle.row_control.proofs.past_full.Goals as goal

pub returns : goal.returns
returns c =
    let e = position_from_yields_List (λ b. not (eqb b 255)) _ _ _ c.position.ensures.ran (YieldsList-from_slice _ c.iter.ensures.rest) (λ x b q k. search (rules, tests)) in
    let h = passed c.args.s.now c.args.i _ c.position.result c.requires (between_to_end c.args.s.now c.args.i _ (omega arith)) e in
    rw c.unwrap_or.ensures h
