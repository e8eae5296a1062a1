-- `row_piece::fill` meets its contract: the loop's invariant: k of the places that there are are filled. Assumes nothing.
use Rattle.row_piece.proofs.Clips.{Filling}
use Rattle.row_piece.proofs.fill.Given as goal

abbrev pub invariant-loop-k : goal.invariant-loop-k
invariant-loop-k l = Filling l.initial.row l.at l.n l.b l.m l.row l.k
