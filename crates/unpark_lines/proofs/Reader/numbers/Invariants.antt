-- `unpark_lines::Reader::numbers` meets its contract: one after another is read and stored. Assumes nothing.
use Rattle.std.proofs.Common.{drop}
use Rattle.rules.specs.Texts.{numbers}
use Rattle.unpark_lines.proofs.Going.{Going}
use Rattle.unpark_lines.proofs.Reader.numbers.Given as goal

-- those that are read are stored, and with those that are left they are all
abbrev pub invariant-loop-i : goal.invariant-loop-i
invariant-loop-i g l = Going (numbers l.flags l.fn.self) (numbers (drop l.i l.flags) l.self) l.initial.held l.held l.i
