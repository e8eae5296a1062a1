-- `unpark_say::write_held` meets its contract. Assumes nothing.
use Rattle.unpark_say.proofs.Members.{written_held}
use Rattle.unpark_say.proofs.write_held.Goals as goal

pub returns : goal.returns
returns c =
    let j = c.args.j.now in
    written_held j.wide j.high j.state c.write_members.ensures (rw c.stacked.ensures.value at c.write_positions.ensures) (rw c.seed_row.ensures at c.write_row.ensures)
