-- `plain_length::decimal_length` meets its contract. The loop's invariant: the digits counted and those left are one more than all; the measure is what is left. Assumes nothing.
use borrow.Author.Rules.{rules}
use Rattle.number_write.proofs.Laws.{decimal_short, decimal_some}
use Rattle.plain_length.proofs.Counting.{numbering_again, numbering_end}
use Rattle.plain_length.proofs.decimal_length.Goals as goal

pub loop-left-init : goal.loop-left-init
loop-left-init c = search (decimal_short, decimal_some, rules)

pub loop-left-preserved : goal.loop-left-preserved
loop-left-preserved c = search (numbering_again, rules)

pub returns : goal.returns
returns c = search (numbering_end, rules)
