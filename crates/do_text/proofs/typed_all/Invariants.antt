-- `do_text::typed_all` meets its contract. The loop's invariant: what is left, typed behind the cursor and the flag so far, makes the whole. Assumes nothing.
use Rattle.do_text.proofs.Typing.{Typing}
use Rattle.do_text.proofs.typed_all.Given as goal

abbrev pub invariant-loop-b : goal.invariant-loop-b
invariant-loop-b l = Typing l.g l.s l.initial.at l.l l.was l.at l.used l.b-index
