-- `plain_item::write_whole` meets its contract. Assumes nothing.
use Rattle.plain_item.proofs.Writing.{short_none, command_told}
use Rattle.plain_item.specs.Plain.{plain_command}
use borrow.Author.Rules.{rules}
use Rattle.plain_item.proofs.write_whole.Goals as goal

pub returns-in-Valued : goal.returns-in-Valued
returns-in-Valued c = search (command_told, c.write_valued.ensures, rules)

pub returns-in-Method : goal.returns-in-Method
unfolding plain_command
returns-in-Method c = search (command_told, short_none, rules)

pub returns-in-Print : goal.returns-in-Print
returns-in-Print c = search (command_told, c.write_print.ensures, rules)

pub returns-in-Row : goal.returns-in-Row
returns-in-Row c = search (command_told, c.write_row.ensures, rules)

pub returns-in-Unknown : goal.returns-in-Unknown
unfolding plain_command
returns-in-Unknown c = search (command_told, short_none, rules)
