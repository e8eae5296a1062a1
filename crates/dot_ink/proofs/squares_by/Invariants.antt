-- `dot_ink::squares_by` meets its contract: the squares of the first i bytes are made, and what is behind them is as it was. Assumes nothing.
use Prim.Native.Nat.{◌*◌}
use Rattle.dot_ink.proofs.Inks.{Making}
use Rattle.dot_ink.proofs.squares_by.Given as goal

abbrev pub invariant-loop-i : goal.invariant-loop-i
invariant-loop-i g l = Making l.row g.row.N l.initial.ink (g.row.N * l.i) l.ink
