-- What a walk over a stream writes: its plain stream, or the front of it that is more than is wanted.
use Rattle.std.specs.Prelude.{cond, List, [], ◌∷◌, ◌++◌, ℕ, ◌+◌, ltb, length}
use Rattle.rules.specs.declared.Measure.{Measure}
use Rattle.rules.specs.Acts.{Act}
use Rattle.rules.specs.Run.{acts}
use Rattle.rules.specs.Plain.{put}

-- the bytes of these acts, n bytes being written before them: a walk ends behind the act that takes it beyond the most that are wanted
unfoldable pub walked_from : ℕ → ℕ → List Act → List ℕ
walked_from most n [] = []
walked_from most n (a ∷ l) = cond (ltb most n) [] (put a [] ++ walked_from most (n + length (put a [])) l)

-- of the stream s
unfoldable pub walked : Measure → ℕ → List ℕ → List ℕ
walked g most s = walked_from most 0 (acts g s)
