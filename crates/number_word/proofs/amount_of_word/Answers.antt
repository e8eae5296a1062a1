-- `number_word::amount_of_word` meets its contract. Assumes nothing.
use Rattle.number_word.proofs.Digits.{reads_first, reads_end, reads_no, reads_more}
use native.Mathlib.Omega.{arith}
use borrow.Author.Rules.{rules}
use Rattle.number_word.proofs.amount_of_word.Goals as goal

pub loop-b-init : goal.loop-b-init
loop-b-init c = search (reads_first, rules)

pub returns-then-not-is_ascii_digit : goal.returns-then-not-is_ascii_digit
returns-then-not-is_ascii_digit c = reads_no _ _ _ _ c.loop-b.invariant (omega arith) c.if-not-is_ascii_digit.ensures.cases

pub loop-b-preserved : goal.loop-b-preserved
loop-b-preserved c = search (reads_more, rules)

pub returns : goal.returns
returns c = search (reads_end, rules)
