-- The room is as it was, and the place is at most its end.
use Rattle.std.proofs.Common.{refl}
use Rattle.common.proofs.Writing.{written_end}
use Rattle.common.proofs.writer.Writer.settle.Goals as goal

pub returns : goal.returns
returns c = written_end _ _ refl refl c.min-self.ensures
