-- A word of the command line as a number: decimal digits and nothing else; 0 for any other word.
use Rattle.std.specs.Prelude.{ℕ, ◌+◌, ◌*◌, ◌-◌, min, cond, List, [], ◌∷◌}
use Rattle.common.specs.Choice.{within}

-- one digit more; `most` stands for all that is larger
abbrev pub one_digit : ℕ → ℕ → ℕ → ℕ
one_digit most n b = min (n * 10 + (b - 48)) most

-- the digits that follow a number
unfoldable pub digits_from : ℕ → ℕ → List ℕ → ℕ
digits_from most n [] = n
digits_from most n (b ∷ s) = cond (within 48 57 b) (digits_from most (one_digit most n b) s) 0

abbrev pub amount_word : ℕ → List ℕ → ℕ
amount_word most word = digits_from most 0 word

-- a page measure: neither 0 nor a million is one
abbrev pub measure_word : List ℕ → ℕ
measure_word word = amount_word 1000000 word

-- a number of items: ten million are more than any job has
abbrev pub items_word : List ℕ → ℕ
items_word word = amount_word 10000000 word
