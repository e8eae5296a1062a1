-- `park_text::write_positions` meets its contract. With the pieces that are left all are written. Assumes nothing.
use Rattle.rules.specs.Texts.{put_position}
use Rattle.park_text.proofs.Writing.{Each}
use Rattle.park_text.proofs.write_positions.Given as goal

abbrev pub invariant-loop-p : goal.invariant-loop-p
invariant-loop-p l = Each put_position l.fn.out l.spots l.out l.p-index
