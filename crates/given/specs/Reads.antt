-- What is made of the answers of `read`. Which bytes come, no contract can say.
use Rattle.std.specs.Prelude.{◌≡◌, ℕ, zero, suc, ◌+◌, ◌≤◌, ◌<◌, List, length, take, replicate, Option, None, Some, Result, Ok, Err}
use Rattle.std.specs.declared.io.Error.{Error}
use Rattle.std.specs.Io.KnownBytes.{IsAtEnd}
use Rattle.rules.specs.Measure.{longest_stream}

-- an error is a failure and never the end; 0 is the end; any other counts the bytes that came
abbrev pub read_said : Result ℕ Error → Result (Option ℕ) Error
read_said (Ok zero) = Ok None
read_said (Ok (suc k)) = Ok (Some (suc k))
read_said (Err e) = Err e

-- the job's bytes are the first ones of their place
abbrev pub Within : Result ℕ Error → List ℕ → Type 0
Within (Ok n) input = (n ≤ length input) × (n ≡ length (take n input))
Within (Err e) input = Unit {0}

-- a job that leaves room in its place was read to its end: nothing of what is known to come is left
abbrev pub Whole : Option (List ℕ) → Result ℕ Error → List ℕ → Type 0
Whole left (Ok n) input = n < length input → IsAtEnd left
Whole left (Err e) input = Unit {0}

-- the place for the longest job and one byte, before a byte has come
unfoldable pub no_job : List ℕ
no_job = replicate (longest_stream + 1) 0

-- the place for the largest page, before a dot is set
unfoldable pub no_page : List ℕ
no_page = replicate 4080000 0
