-- `read_item::letter_at` meets its contract. Assumes nothing.
use borrow.Author.Rules.{rules}
use Rattle.read_number.proofs.Reading.{got, got_none}
use Rattle.read_item.proofs.Items.{letter_end, letter_there, letter_broken}
use Rattle.read_item.proofs.letter_at.Goals as goal

pub returns-in_default : goal.returns-in_default
returns-in_default c = letter_end _ _ _ _ _ _ (got_none _ _ c.in_default.ensures.lookup) c.ends_inside.ensures

pub returns-in_default-ending_of : goal.returns-in_default-ending_of
returns-in_default-ending_of c =
    let g = got _ _ c.in-Some.field-0 c.in-Some.ensures.lookup in
    letter_broken _ _ _ _ _ _ g.0 g.1 _ c.ending_of.ensures c.in_default-ending_of.is

pub returns : goal.returns
returns c =
    let g = got _ _ c.in-Some.field-0 c.in-Some.ensures.lookup in
    search (letter_there c.args.s.now c.args.at c.args.opening.first c.args.opening.group c.args.v c.in-Some.field-0.now g.0 g.1 c.ending_of.result c.ending_of.ensures, rules)
