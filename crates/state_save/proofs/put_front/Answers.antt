-- `state_save::put_front` meets its contract: each part behind the one before. Assumes nothing.
use Rattle.common.proofs.Writing.{written_both}
use Rattle.state_load.specs.Kept.{front_bytes}
use Rattle.state_save.proofs.put_front.Goals as goal

pub returns : goal.returns
unfolding front_bytes
returns c = written_both c.put_spot.ensures (written_both c.put_lengths.ensures (written_both c.put_modes.ensures (written_both c.put_flags.ensures (written_both c.put_sequence.ensures c.put_depth.ensures))))
