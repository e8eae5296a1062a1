use Rattle.std.specs.Prelude.{take}
use Rattle.common.specs.Writing.{Written}
use Rattle.state_load.specs.Kept.{stack_bytes}
use Rattle.state_save.proofs.put_stack.Given as goal

-- the places before the one at hand are written
abbrev pub invariant-loop-p : goal.invariant-loop-p
invariant-loop-p l = Written l.initial.out (stack_bytes (take l.p-index l.stack)) l.out
