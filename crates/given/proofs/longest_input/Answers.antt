-- `given::longest_input` meets its contract: the law gives the zeros, not the checker. Assumes nothing.
use Rattle.std.proofs.Common.{refl}
use Rattle.given.specs.Reads.{no_job}
use Rattle.given.proofs.longest_input.Goals as goal

pub returns : goal.returns
unfolding no_job
returns c = refl
