-- `dot_ink::Two::spread` meets its contract. Assumes nothing.
use Rattle.dot_ink.proofs.Inks.{spread_two}
use Rattle.dot_ink.proofs.TwoSpreads2.spread.Goals as goal

pub returns : goal.returns
returns c = spread_two _ _ _ _ c.requires c.ranges.b.fits c.two_of.ensures c.two_of-2.ensures
