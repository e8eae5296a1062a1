-- `dot_page::count_behind` meets its contract. Assumes nothing.
use Rattle.dot_page.proofs.Bytes.{ones_behind}
use borrow.Author.Rules.{rules}
use Rattle.dot_page.proofs.count_behind.Goals as goal

pub returns : goal.returns
returns c = search (ones_behind, rules)
