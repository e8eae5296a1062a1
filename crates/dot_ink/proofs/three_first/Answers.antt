-- `dot_ink::three_first` meets its contract, by a test of every number. Assumes nothing.
use Prim.Native.Nat.{◌+◌, ◌*◌, ◌/◌, ◌%◌}
use borrow.Author.Rules.{rules}
use Rattle.common.specs.Bits.{bit, byte_of}
use Rattle.dot_ink.specs.Ink.{spread_of}
use Rattle.dot_ink.proofs.Inks.{spread_by}
use Rattle.dot_ink.proofs.three_first.Goals as goal

pub returns : goal.returns
unfolding spread_of byte_of bit
returns c = spread_by (λ b. b / 128 * 224 + b / 64 % 2 * 28 + b / 32 % 2 * 3) 3 0 256 tt c.args.b (search rules)
