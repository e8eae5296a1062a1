-- `park_text::text_length` meets its contract. Assumes nothing.
use Rattle.std.proofs.Common.{rules}
use Rattle.park_text.proofs.Counting.{text_counted}
use Rattle.park_text.proofs.text_length.Goals as goal

pub returns : goal.returns
returns c =
    text_counted c.args.w c.args.h c.args.t.now _ _ _ (rw c.numbers_of-numbers.ensures at c.fields_length-job.ensures) c.positions_length-positions.ensures (search rules)
