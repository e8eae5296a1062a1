-- `park_text::positions_length` meets its contract. The bytes counted and those left are all. Assumes nothing.
use Rattle.std.proofs.Common.{[], drop}
use Rattle.rules.specs.Texts.{put_many, put_position}
use Rattle.park_text.proofs.Counting.{Counts}
use Rattle.park_text.proofs.positions_length.Given as goal

abbrev pub invariant-loop-p : goal.invariant-loop-p
invariant-loop-p l = Counts (put_many put_position l.spots []) 46 l.count l.p-index (put_many put_position (drop l.p-index l.spots) [])
