-- A command is four bytes and its value.
use Rattle.plain_command.proofs.Writing.{order_counted}
use Rattle.plain_command.proofs.command_length.Goals as goal

pub returns : goal.returns
returns c = order_counted _ _ _ c.used_length.ensures
