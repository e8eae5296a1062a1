-- `given::largest_page` meets its contract: the laws give the zeros and count them, not the checker. Assumes nothing.
use Rattle.std.proofs.Common.{◌≡◌, ℕ, length, replicate, sym, refl}
use Rattle.std.proofs.lemmas.List.{length-replicate}
use Rattle.given.specs.Reads.{no_page}
use Rattle.given.proofs.largest_page.Goals as goal

zeros : (n : ℕ) → n ≡ length {A = ℕ} (replicate n 0)
zeros n = sym (length-replicate n 0)

pub returns-clause-blank : goal.returns-clause-blank
unfolding no_page
returns-clause-blank c = refl

pub returns-clause-bytes : goal.returns-clause-bytes
returns-clause-bytes c = zeros 4080000
