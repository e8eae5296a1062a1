-- `row_piece::copy` meets its contract: the loop's invariant: k of the bytes that fit are stored. Assumes nothing.
use Rattle.row_piece.proofs.Clips.{Copying}
use Rattle.row_piece.proofs.copy.Given as goal

abbrev pub invariant-loop-k : goal.invariant-loop-k
invariant-loop-k l = Copying l.initial.row l.at l.s l.i l.n l.m l.row l.k
