-- `state_save::put_state` meets its contract. Assumes nothing.
use Rattle.std.proofs.Common.{rules}
use Rattle.common.proofs.Writing.{written_inside}
use Rattle.state_save.proofs.Places.{written_state}
use Rattle.state_save.proofs.put_state.Goals as goal

pub put_stack-requires : goal.put_stack-requires
put_stack-requires c = written_inside c.put_front.ensures

pub returns : goal.returns
returns c = search (written_state, rules)
