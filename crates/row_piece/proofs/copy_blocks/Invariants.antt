-- `row_piece::copy_blocks` meets its contract: the loop's invariant: k of the bytes are copied. Assumes nothing.
use Prim.Native.Nat.{◌-◌}
use Rattle.row_piece.proofs.Texts.{Blocks}
use Rattle.row_piece.proofs.copy_blocks.Given as goal

abbrev pub invariant-loop-k : goal.invariant-loop-k
invariant-loop-k l = Blocks l.initial.row l.at l.s l.i l.n l.row l.k

abbrev pub decreases-loop-k : goal.decreases-loop-k
decreases-loop-k l = l.n - l.k
