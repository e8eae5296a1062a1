-- `do_code::code_tab` meets its contract. Assumes nothing.
use Rattle.do_code.proofs.Moves.{tab_none, tab_moved}
use borrow.Author.Rules.{rules}
use Rattle.do_code.proofs.code_tab.Goals as goal

pub returns-then-l-eq0 : goal.returns-then-l-eq0
returns-then-l-eq0 c = search (tab_none, rules)

pub returns : goal.returns
returns c = search (tab_moved, rules)
