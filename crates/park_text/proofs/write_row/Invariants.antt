-- `park_text::write_row` meets its contract. With the pieces that are left all are written. Assumes nothing.
use Rattle.rules.specs.Texts.{put_pair}
use Rattle.park_text.proofs.Writing.{Each}
use Rattle.park_text.proofs.write_row.Given as goal

abbrev pub invariant-loop-b : goal.invariant-loop-b
invariant-loop-b l = Each put_pair l.initial.out l.bytes l.out l.b-index
