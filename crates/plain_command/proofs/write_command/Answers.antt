-- A command is three bytes, its value, and its letter.
use Rattle.plain_command.proofs.Writing.{wrote_order}
use Rattle.plain_command.proofs.write_command.Goals as goal

pub returns : goal.returns
returns c = wrote_order _ _ (rw c.name_of.ensures at c.write_start.ensures) c.write_used.ensures (rw c.name_of.ensures at c.put.ensures)
