-- `dot_slowly::paint_slowly` meets its contract: after j turns j bytes are painted. Assumes nothing.
use Prim.Native.Nat.{ℕ, ◌<◌}
use lib.ListN.{get_or}
use Rattle.dot_slowly.proofs.Lines.{Walking}
use Rattle.dot_slowly.proofs.paint_slowly.Given as goal

abbrev pub invariant-loop-j : goal.invariant-loop-j
invariant-loop-j l = Walking l.row l.dots l.from l.initial.part l.part l.at l.j × ((i : ℕ) → get_or l.part i 0 < 256)
