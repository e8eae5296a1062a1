-- `dot_ink::three_middle` meets its contract, by a test of every number. Assumes nothing.
use Prim.Native.Nat.{◌+◌, ◌*◌, ◌/◌, ◌%◌}
use borrow.Author.Rules.{rules}
use Rattle.common.specs.Bits.{bit, byte_of}
use Rattle.dot_ink.specs.Ink.{spread_of}
use Rattle.dot_ink.proofs.Inks.{spread_by}
use Rattle.dot_ink.proofs.three_middle.Goals as goal

pub returns : goal.returns
unfolding spread_of byte_of bit
returns c = spread_by (λ b. b / 32 % 2 * 128 + b / 16 % 2 * 112 + b / 8 % 2 * 14 + b / 4 % 2) 3 1 256 tt c.args.b (search rules)
