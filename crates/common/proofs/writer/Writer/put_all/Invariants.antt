use Rattle.std.specs.Prelude.{take}
use Rattle.common.specs.Writing.{Written}
use Rattle.common.proofs.writer.Writer.put_all.Given as goal

-- the bytes before the place are written
abbrev pub invariant-loop-b : goal.invariant-loop-b
invariant-loop-b l = Written l.fn.self (take l.b-index l.bytes) l.self
