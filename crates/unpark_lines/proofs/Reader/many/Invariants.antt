-- `unpark_lines::Reader::many` meets its contract: one after another is read and stored. Assumes nothing.
use Rattle.std.proofs.Common.{◌-◌}
use Rattle.rules.specs.Texts.{many}
use Rattle.unpark_lines.proofs.Going.{Going}
use Rattle.unpark_lines.proofs.Reader.many.Given as goal

-- those that are read are stored, and with those that are left they are all
abbrev pub invariant-loop-i : goal.invariant-loop-i
invariant-loop-i g l = Going (many g.T.Repeated.form l.n l.fn.self) (many g.T.Repeated.form (l.n - l.i) l.self) l.initial.held l.held l.i
