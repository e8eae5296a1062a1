-- `plain_item::write_item` meets its contract. Assumes nothing.
use mathlib.Core.Path.{ap}
use Rattle.read_item.specs.Items.{from_of, to_of}
use Rattle.plain_item.proofs.Writing.{item_text, item_code, item_two, item_command, item_broken, part_short}
use native.Mathlib.Omega.{arith}
use borrow.Author.Rules.{rules}
use Rattle.plain_item.proofs.write_item.Goals as goal

pub slice_bounds-write_whole-count : goal.slice_bounds-write_whole-count
slice_bounds-write_whole-count c = omega (arith, ap from_of c.in-Command.is, ap to_of c.in-Command.is)

pub slice_bounds-write_whole-start : goal.slice_bounds-write_whole-start
slice_bounds-write_whole-start c = omega (arith, ap from_of c.in-Command.is, ap to_of c.in-Command.is)

pub slice_bounds-write_whole-end : goal.slice_bounds-write_whole-end
slice_bounds-write_whole-end c = omega (arith, ap from_of c.in-Command.is, ap to_of c.in-Command.is)

pub write_whole-requires : goal.write_whole-requires
write_whole-requires c = search (part_short, rules)

pub returns-in-Text : goal.returns-in-Text
returns-in-Text c = search (item_text, rules)

pub returns-in-Code : goal.returns-in-Code
returns-in-Code c = search (item_code, rules)

pub returns-in-Two : goal.returns-in-Two
returns-in-Two c = search (item_two, rules)

pub returns-in-Command : goal.returns-in-Command
returns-in-Command c = search (item_command, rules)

pub returns-in-Broken : goal.returns-in-Broken
returns-in-Broken c = search (item_broken, rules)
