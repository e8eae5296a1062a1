-- One byte more is written: the bytes before it, and it behind them.
use Rattle.std.proofs.Common.{arith}
use Rattle.std.proofs.lemmas.List.{take_more}
use Rattle.common.proofs.Writing.{written_both}
use Rattle.common.proofs.writer.Writer.put_all.Goals as goal

pub loop-b-preserved : goal.loop-b-preserved
loop-b-preserved c = rw (take_more c.args.bytes.now c.loop-b.b-index 0 (omega arith)) (written_both c.loop-b.invariant c.put.ensures)
