-- What the theorems on parked texts speak of.
use Rattle.std.specs.Prelude.{◌≡◌, ℕ, ◌^◌, ◌<◌, Bool, true, List, [], ◌∷◌, length}
use Rattle.rules.specs.declared.Spot.{Spot}
use Rattle.rules.specs.declared.Sequence.TheVariants.{Closed}
use Rattle.rules.specs.Texts.{fitting}
use Rattle.rules.specs.Forms.{Parked, Form, flags_of}
use Rattle.rules.specs.Park.{Lines, print, shape, depth_of, row_bytes, parked_sound}
use Rattle.theorems.specs.Facts.{Shaped}

-- each of a list is such
pub data Each {A : Type 0} (P : A → Type 0) : List A → Type 0 where
  none : Each P []
  each : {a : A} {l : List A} → P a → Each P l → Each P (a ∷ l)

-- as many numbers as fields; "flags are 0 or 1"
pub data Fit : List Bool → List ℕ → Type 0 where
  end : Fit [] []
  fit : {flag : Bool} {l : List Bool} {n : ℕ} {ns : List ℕ} → fitting flag n ≡ true → Fit l ns → Fit (flag ∷ l) (n ∷ ns)

-- "Decimals have 1 to 10 digits"
abbrev pub TenDigits : ℕ → Type 0
TenDigits n = n < 10 ^ 10

abbrev pub SmallSpot : Spot → Type 0
SmallSpot p = TenDigits p.x × TenDigits p.y

abbrev pub IsByte : ℕ → Type 0
IsByte b = b < 256

-- ---- a text of a form
-- the lines of such a text: as many fields as the form has, decimals, flags; "depth is the number of POS lines"; W/8 bytes
pub record WellFormed (f : Form) (r : Lines) : Type 0 where
  pub fits : Fit (flags_of f.members) r.numbers
  pub small : Each TenDigits r.numbers
  pub spots_small : Each SmallSpot r.spots
  pub depth : length r.spots ≡ depth_of (shape f r.numbers)
  pub wide : length r.bytes ≡ row_bytes (shape f r.numbers)
  pub bytes_small : Each IsByte r.bytes

-- it is the print of such lines, and nothing behind them
pub record OfForm (f : Form) (s : List ℕ) : Type 0 where
  pub says : Lines
  pub formed : WellFormed f says
  pub is : print f says [] ≡ s

-- ---- what can be parked: "every sound state without an open sequence", of an allowed page. Its lists have the lengths of their arrays, and its seed row
-- holds bytes, as of any state that a program can hold.
pub record Parkable (j : Parked) : Type 0 where
  pub sound : parked_sound j ≡ true
  pub closed : j.state.sequence ≡ Closed
  pub shaped : Shaped j.state.core
  pub seed_bytes : Each IsByte j.state.core.seed
