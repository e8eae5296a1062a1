-- `do_command::make` meets its contract. Assumes nothing.
use Rattle.do_command.proofs.Commands.{made_pushed, made_popped}
use Rattle.do_command.proofs.make.Goals as goal

pub returns-in-Pushed : goal.returns-in-Pushed
returns-in-Pushed c = made_pushed _ _ _ _ _ c.in-Pushed.is c.requires c.stacked.ensures

pub returns-in-Popped : goal.returns-in-Popped
returns-in-Popped c = made_popped _ _ _ _ _ c.in-Popped.is c.requires c.stacked-in-Popped.ensures
