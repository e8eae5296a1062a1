-- `plain_item::trimmed` meets its contract. Assumes nothing.
use Rattle.plain_item.proofs.Trimming.{trims_used, trims_more, trims_found, trims_none}
use borrow.Author.Rules.{rules}
use Rattle.plain_item.proofs.trimmed.Goals as goal

pub loop-n-init : goal.loop-n-init
loop-n-init c = search (trims_used, rules)

pub returns-then-row-n-ne0 : goal.returns-then-row-n-ne0
returns-then-row-n-ne0 c = search (trims_found, rules)

pub loop-n-preserved : goal.loop-n-preserved
loop-n-preserved c = search (trims_more, rules)

pub returns : goal.returns
returns c = search (trims_none, rules)
