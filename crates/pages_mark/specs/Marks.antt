-- Not the paper's: what the program `pages` says of a finding besides the report's line, so that it can be marked on the page.
use Rattle.std.specs.Prelude.{ℕ, List, [], ◌∷◌}
use Rattle.rules.specs.Report.{line, FAULT, Saying}

abbrev pub MARK : List ℕ
MARK = 77 ∷ 65 ∷ 82 ∷ 75 ∷ []

-- FAULT, place, number; then MARK, place, number, and x and y of the cursor as the item began
abbrev pub marked : Saying
marked began at n s = line FAULT (at ∷ n ∷ []) (line MARK (at ∷ n ∷ began.x ∷ began.y ∷ []) s)
