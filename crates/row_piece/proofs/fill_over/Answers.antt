-- `row_piece::fill_over` meets its contract. Assumes nothing.
use borrow.Author.Rules.{rules}
use Rattle.row_piece.proofs.Texts.{over_just, over_run, over_block}
use Rattle.row_piece.proofs.fill_over.Goals as goal

pub returns-then-row-at : goal.returns-then-row-at
returns-then-row-at c = search (over_just, rules)

pub returns-then-n-gt-BLOCK : goal.returns-then-n-gt-BLOCK
returns-then-n-gt-BLOCK c = search (over_run, rules)

pub returns-else-n-gt-BLOCK : goal.returns-else-n-gt-BLOCK
returns-else-n-gt-BLOCK c = search (over_block, rules)
