-- `dot_ink::two_of` meets its contract, by a test of every number. Assumes nothing.
use Prim.Native.Nat.{◌+◌, ◌*◌, ◌/◌, ◌%◌}
use borrow.Author.Rules.{rules}
use Rattle.common.specs.Bits.{bit, byte_of}
use Rattle.dot_ink.specs.Ink.{spread_of}
use Rattle.dot_ink.proofs.Inks.{spread_by}
use Rattle.dot_ink.proofs.two_of.Goals as goal

pub returns : goal.returns
unfolding spread_of byte_of bit
returns c = spread_by (λ x. x % 2 * 3 + x / 2 % 2 * 12 + x / 4 % 2 * 48 + x / 8 * 192) 2 1 16 tt c.args.x (search rules)
