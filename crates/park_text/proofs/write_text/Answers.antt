-- `park_text::write_text` meets its contract. Assumes nothing.
use Rattle.park_text.proofs.Writing.{written_text}
use Rattle.park_text.proofs.write_text.Goals as goal

pub returns : goal.returns
returns c =
    written_text c.args.w c.args.h c.args.t.now (rw c.numbers_of.ensures at c.write_line.ensures) (rw c.stacked.ensures.value at c.write_positions.ensures)
    (rw c.seed_row.ensures at c.write_row.ensures)
