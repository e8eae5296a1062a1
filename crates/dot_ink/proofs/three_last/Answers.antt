-- `dot_ink::three_last` meets its contract, by a test of every number. Assumes nothing.
use Prim.Native.Nat.{◌+◌, ◌*◌, ◌/◌, ◌%◌}
use borrow.Author.Rules.{rules}
use Rattle.common.specs.Bits.{bit, byte_of}
use Rattle.dot_ink.specs.Ink.{spread_of}
use Rattle.dot_ink.proofs.Inks.{spread_by}
use Rattle.dot_ink.proofs.three_last.Goals as goal

pub returns : goal.returns
unfolding spread_of byte_of bit
returns c = spread_by (λ b. b / 4 % 2 * 192 + b / 2 % 2 * 56 + b % 2 * 7) 3 2 256 tt c.args.b (search rules)
