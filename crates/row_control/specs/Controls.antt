-- The control bytes of a payload by method, and what each asks for. Places of a payload are counted from its first byte, places of a row from its
-- first byte too.
use Rattle.std.specs.Prelude.{ℕ, suc, ◌+◌, ◌≤◌, ◌<◌, ◌≡◌, Bool, cond, ◌&&◌, List, [], ◌∷◌, leb, eqb, length, drop, replicate}
use Rattle.rules.specs.declared.Mode.{Mode}
use Rattle.rules.specs.declared.Mode.TheVariants.{Ready, Offset, Copy, Repeat}
use Rattle.rules.specs.Rows.{control1, control2, control3, is_whole}

-- what a control byte of a method means, for the methods that have control bytes; a number over 2 acts as 3
unfoldable pub control_of : ℕ → ℕ → ℕ → Mode
control_of method = cond (eqb method 1) control1 (cond (eqb method 2) control2 control3)

-- the bytes of 255 in front
unfoldable pub fulls : List ℕ → ℕ
fulls [] = 0
fulls (b ∷ s) = cond (eqb b 255) (suc (fulls s)) 0

-- the bytes that are asked for in a mode, up to the next control byte, where the payload goes on with s
unfoldable pub wanted : Mode → List ℕ → ℕ
wanted (Ready at) s = 0
wanted (Offset n at) s = fulls s + (n + 2)
wanted (Copy n at) s = n + 1
wanted (Repeat n at) s = 1

-- the byte in front n times; nothing where there is none
unfoldable pub repeated : ℕ → List ℕ → List ℕ
repeated n [] = []
repeated n (b ∷ s) = replicate n b

-- the number that a mode holds besides its place: of bytes that follow one, or of places to fill
unfoldable pub count : Mode → ℕ
count (Ready at) = 0
count (Offset n at) = n
count (Copy n at) = n
count (Repeat n at) = n

-- the place in the row that a mode holds
unfoldable pub place : Mode → ℕ
place (Ready at) = at
place (Offset n at) = at
place (Copy n at) = at
place (Repeat n at) = at

-- no byte is missing from place i on, where a control byte is next; past the end one is
abbrev pub whole_from : (ℕ → ℕ → Mode) → List ℕ → ℕ → Bool
whole_from by s i = leb i (length s) && is_whole by (Ready 0) (drop i s)

-- r is the place of the first byte from i on that is not 255, or the end
pub record Passed (s : List ℕ) (i r : ℕ) : Type 0 where
  pub is : r ≡ i + fulls (drop i s)
  pub inside : r ≤ length s

-- a mode is what a control byte gives, and holds a small number
pub record Means (want r : Mode) : Type 0 where
  pub is : r ≡ want
  pub small : count r < 257

-- r is the place behind what a mode asks for from i on
pub record Behind (m : Mode) (s : List ℕ) (i r : ℕ) : Type 0 where
  pub is : r ≡ i + wanted m (drop i s)
  pub on : i ≤ r
