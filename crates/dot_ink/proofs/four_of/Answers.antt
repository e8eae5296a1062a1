-- `dot_ink::four_of` meets its contract, by a test of every number. Assumes nothing.
use Prim.Native.Nat.{◌+◌, ◌*◌, ◌/◌, ◌%◌}
use borrow.Author.Rules.{rules}
use Rattle.common.specs.Bits.{bit, byte_of}
use Rattle.dot_ink.specs.Ink.{spread_of}
use Rattle.dot_ink.proofs.Inks.{spread_by}
use Rattle.dot_ink.proofs.four_of.Goals as goal

pub returns : goal.returns
unfolding spread_of byte_of bit
returns c = spread_by (λ x. x % 2 * 15 + x / 2 * 240) 4 3 4 tt c.args.x (search rules)
