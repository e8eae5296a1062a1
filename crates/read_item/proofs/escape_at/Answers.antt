-- `read_item::escape_at` meets its contract. Assumes nothing.
use native.Mathlib.Omega.{arith}
use borrow.Author.Rules.{rules}
use Rattle.read_number.proofs.Reading.{got, got_none}
use Rattle.read_item.proofs.Items.{escape_end, escape_two, escape_group, escape_under, escape_over}
use Rattle.read_item.proofs.escape_at.Goals as goal

pub returns-in_default : goal.returns-in_default
returns-in_default c = (escape_end _ _ _ (got_none _ _ c.in_default.ensures.lookup) c.ends_inside.ensures, omega arith)

pub returns-in-33-to-47 : goal.returns-in-33-to-47
returns-in-33-to-47 c =
    let g = got _ _ c.in-Some.field-0 c.in-Some.ensures.lookup in
    search (escape_group c.args.s.now c.args.at c.in-Some.field-0.now g.0 g.1, rules)

pub returns-in-48-to-126 : goal.returns-in-48-to-126
returns-in-48-to-126 c =
    let g = got _ _ c.in-Some.field-0 c.in-Some.ensures.lookup in
    (search (escape_two c.args.s.now c.args.at c.in-Some.field-0.now g.0 g.1, rules), omega arith)

pub returns-in_default-b : goal.returns-in_default-b
returns-in_default-b c =
    let g = got _ _ c.in-Some.field-0 c.in-Some.ensures.lookup in
    (search (escape_under c.args.s.now c.args.at c.in-Some.field-0.now g.0 g.1, escape_over c.args.s.now c.args.at c.in-Some.field-0.now g.0 g.1, rules), omega arith)

pub returns-in_default-b-2 : goal.returns-in_default-b-2
returns-in_default-b-2 c =
    let g = got _ _ c.in-Some.field-0 c.in-Some.ensures.lookup in
    (search (escape_under c.args.s.now c.args.at c.in-Some.field-0.now g.0 g.1, escape_over c.args.s.now c.args.at c.in-Some.field-0.now g.0 g.1, rules), omega arith)
