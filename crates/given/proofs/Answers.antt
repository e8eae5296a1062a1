-- What the answer to a job means, where it is known. Assumes nothing.
use Rattle.std.proofs.Common.{◌≡◌, ℕ, List, ◌≤◌, length, take, subst}
use Rattle.std.specs.Prelude.{Result, Ok}
use Rattle.std.specs.declared.io.Error.{Error}
use Rattle.given.specs.Reads.{Within}

-- the bytes of a job that was read are the first ones of their place
pub read_whole : (input : List ℕ) {n : ℕ} {r : Result ℕ Error} → r ≡ Ok n → Within r input → (n ≤ length input) × (n ≡ length (take n input))
read_whole input e h = subst (λ (given : Result ℕ Error). Within given input) e h
