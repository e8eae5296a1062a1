-- `plain_length::decimal_length` meets its contract. The loop's invariant: the digits counted and those left are one more than all; the measure is what is left. Assumes nothing.
use Rattle.plain_length.proofs.Counting.{Numbering}
use Rattle.plain_length.proofs.decimal_length.Given as goal

abbrev pub invariant-loop-left : goal.invariant-loop-left
invariant-loop-left l = Numbering l.n l.count l.left

abbrev pub decreases-loop-left : goal.decreases-loop-left
decreases-loop-left l = l.left
