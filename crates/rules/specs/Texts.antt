-- Paper 02, P1: the bytes of a parked text, line by line. Each writer puts its bytes in front of s; each reader hands on what is left behind its own.
-- No measure and no state is known here.
use Rattle.std.specs.Prelude.{ℕ, zero, suc, ◌+◌, ◌*◌, ◌-◌, ◌/◌, ◌%◌, Bool, true, false, cond, not, ◌&&◌, ◌||◌, List, [], ◌∷◌, ◌++◌, eqb, leb, ltb, get_or}
use Rattle.common.specs.Choice.{within}
use Rattle.rules.specs.declared.Spot.{Spot}
use Rattle.rules.specs.Measure.{spot}
use Rattle.rules.specs.Number.{is_digit}
use Rattle.rules.specs.Report.{line}

-- what a reader finds, and the bytes that are left; or nothing of its form
pub data Found (A : Type 0) : Type 0 where
  wrong : Found A
  found : A → List ℕ → Found A

-- one reader after another
unfoldable pub then : {A B : Type 0} → Found A → (A → List ℕ → Found B) → Found B
then wrong k = wrong
then (found a s) k = k a s

-- n readers of one kind, one after another
unfoldable pub many : {A : Type 0} → (List ℕ → Found A) → ℕ → List ℕ → Found (List A)
many f zero s = found [] s
many f (suc n) s = then (f s) (λ a r. then (many f n r) (λ l q. found (a ∷ l) q))

-- and as many writers
unfoldable pub put_many : {A : Type 0} → (A → List ℕ → List ℕ) → List A → List ℕ → List ℕ
put_many put [] s = s
put_many put (a ∷ l) s = put a (put_many put l s)

-- the byte e
unfoldable pub expect : ℕ → List ℕ → Found Bool
expect e [] = wrong
expect e (b ∷ s) = cond (eqb b e) (found true s) wrong

-- the bytes of a word
unfoldable pub expect_all : List ℕ → List ℕ → Found Bool
expect_all [] s = found true s
expect_all (e ∷ w) s = then (expect e s) (λ _ r. expect_all w r)

-- ---- "Decimals have 1 to 10 digits and no leading zeros"
-- at most f more digits, behind those that made n
unfoldable pub up_to : ℕ → ℕ → List ℕ → Found ℕ
up_to zero n s = found n s
up_to (suc f) n [] = found n []
up_to (suc f) n (b ∷ s) = let more = up_to f (n * 10 + (b - 48)) s in cond (is_digit b) more (found n (b ∷ s))

-- a 0 that stands alone, or 1 to 10 digits the first of which is none. What must follow is no digit, so an eleventh one, or one behind the 0, is wrong there.
unfoldable pub number : List ℕ → Found ℕ
number [] = wrong
number (b ∷ s) = let more = up_to 9 (b - 48) s in cond (eqb b 48) (found 0 s) (cond (within 49 57 b) more wrong)

-- "tab-parted decimal fields": a tab before each, so that all are alike
unfoldable pub field : List ℕ → Found ℕ
field s = then (expect 9 s) (λ _ r. number r)

-- ---- a line of numbers. It is written by `line`, as the lines of the report are.
-- "flags are 0 or 1"
abbrev pub fitting : Bool → ℕ → Bool
fitting flag n = not flag || leb n 1

-- a field for each of the list, which says whether it is a flag. "LF ends each line."
unfoldable pub numbers : List Bool → List ℕ → Found (List ℕ)
numbers [] s = then (expect 10 s) (λ _ r. found [] r)
numbers (flag ∷ l) s =
    then (field s) (λ n r.
    cond (fitting flag n) (then (numbers l r) (λ ns q. found (n ∷ ns) q)) wrong)

unfoldable pub line_of : List ℕ → List Bool → List ℕ → Found (List ℕ)
line_of word flags s = then (expect_all word s) (λ _ r. numbers flags r)

-- ---- "one line POS, x, y for each stacked position, deepest first"
abbrev pub POS : List ℕ
POS = 80 ∷ 79 ∷ 83 ∷ []

abbrev pub two_numbers : List Bool
two_numbers = false ∷ false ∷ []

-- a position by its two numbers
abbrev pub spot_from : List ℕ → Spot
spot_from ns = spot (get_or ns 0 0) (get_or ns 1 0)

unfoldable pub position : List ℕ → Found Spot
position s = then (line_of POS two_numbers s) (λ ns r. found (spot_from ns) r)

unfoldable pub put_position : Spot → List ℕ → List ℕ
put_position p s = line POS (p.x ∷ p.y ∷ []) s

-- ---- "pairs of capital hexadecimal digits"
unfoldable pub hex : ℕ → ℕ
hex n = cond (ltb n 10) (48 + n) (55 + n)

unfoldable pub is_hex : ℕ → Bool
is_hex b = within 48 57 b || within 65 70 b

unfoldable pub unhex : ℕ → ℕ
unhex b = cond (ltb b 58) (b - 48) (b - 55)

unfoldable pub pair : List ℕ → Found ℕ
pair [] = wrong
pair (a ∷ []) = wrong
pair (a ∷ b ∷ s) = cond (is_hex a && is_hex b) (found (unhex a * 16 + unhex b) s) wrong

unfoldable pub put_pair : ℕ → List ℕ → List ℕ
put_pair b s = hex (b / 16) ∷ hex (b % 16) ∷ s

-- "then a line ROW with the seed row's W/8 bytes .., tab-parted from the word": the word and its tab
abbrev pub ROW : List ℕ
ROW = 82 ∷ 79 ∷ 87 ∷ 9 ∷ []

unfoldable pub row : ℕ → List ℕ → Found (List ℕ)
row n s = then (expect_all ROW s) (λ _ r. then (many pair n r) (λ l q. then (expect 10 q) (λ _ t. found l t)))

unfoldable pub put_row : List ℕ → List ℕ → List ℕ
put_row l s = ROW ++ put_many put_pair l (10 ∷ s)
