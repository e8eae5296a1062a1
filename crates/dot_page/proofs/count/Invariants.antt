-- `dot_page::count` meets its contract: the ones of the bytes behind the sixteens, and of the sixteens so far, are summed. Assumes nothing.
use Rattle.dot_page.proofs.Bytes.{Summing}
use Rattle.dot_page.proofs.count.Given as goal

abbrev pub invariant-loop-bytes : goal.invariant-loop-bytes
invariant-loop-bytes l = Summing l.sixteens l.initial.sum l.sum l.bytes-index
