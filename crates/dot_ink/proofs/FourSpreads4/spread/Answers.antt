-- `dot_ink::Four::spread` meets its contract. Assumes nothing.
use Rattle.dot_ink.proofs.Inks.{spread_four}
use Rattle.dot_ink.proofs.FourSpreads4.spread.Goals as goal

pub returns : goal.returns
returns c = spread_four _ _ _ _ _ _ c.requires c.ranges.b.fits c.four_of.ensures c.four_of-2.ensures c.four_of-3.ensures c.four_of-4.ensures
