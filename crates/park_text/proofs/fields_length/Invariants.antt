-- `park_text::fields_length` meets its contract. The bytes counted and those left are all. Assumes nothing.
use Rattle.std.proofs.Common.{[], drop}
use Rattle.rules.specs.Report.{fields}
use Rattle.park_text.proofs.Counting.{Counts}
use Rattle.park_text.proofs.fields_length.Given as goal

abbrev pub invariant-loop-n : goal.invariant-loop-n
invariant-loop-n l = Counts (fields l.numbers []) 21 l.count l.n-index (fields (drop l.n-index l.numbers) [])
