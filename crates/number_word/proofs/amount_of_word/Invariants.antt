-- `number_word::amount_of_word` meets its contract. Assumes nothing.
use Rattle.number_word.proofs.Digits.{Reads}
use Rattle.number_word.proofs.amount_of_word.Given as goal

abbrev pub invariant-loop-b : goal.invariant-loop-b
invariant-loop-b l = Reads l.most l.word l.b-index l.n
