-- A number of a text may have ten digits, more than its place in a state can hold. It is put there as the greatest that the place holds, which no sound
-- state has: so what is not sound stays so, and what is sound stays as it is (proofs/Holding.antt).
use Rattle.std.specs.Prelude.{Option, Some, None, ℕ, min, cond, List, [], ◌∷◌, get_or, replicate}
use Rattle.std.proofs.lemmas.List.Edits.{sets}
use Rattle.rules.specs.declared.Spot.{Spot}
use Rattle.rules.specs.declared.Layout.{Layout}
use Rattle.rules.specs.declared.Raster.{Raster}
use Rattle.rules.specs.declared.Core.{Core}
use Rattle.rules.specs.declared.Refusal.TheVariants.{TextForm}
use Rattle.rules.specs.declared.State.{State}
use Rattle.rules.specs.declared.Stored.{Stored}
use Rattle.rules.specs.Given.{Unparked}
use Rattle.rules.specs.States.{beside_of, state_of}
use Rattle.rules.specs.Measure.{row_holds}
use Rattle.rules.specs.Texts.{Found, wrong, found}
use Rattle.rules.specs.Forms.{Parked, parked_of, JOB}
use Rattle.rules.specs.Park.{of_numbers, parked_sound, given, not_sound, read_refused, answered}
use Rattle.unpark_lines.specs.Answers.{low, low_spot}

-- places of 16 and of 8 bits; of 32 bits a number is `low`
abbrev pub low16 : ℕ → ℕ
low16 n = min n 65535

abbrev pub low8 : ℕ → ℕ
low8 n = min n 255

abbrev pub held_layout : Layout → Layout
held_layout l = record { left = low l.left; right = low l.right; top = low l.top; hmi = low l.hmi; vmi = low l.vmi; termination = low8 l.termination }

abbrev pub held_raster : Raster → Raster
held_raster r = record { resolution = low16 r.resolution; started = r.started; margin = low r.margin }

-- all but the stack and the seed row, which are put into their places as they are read
abbrev pub held_core : Core → Core
held_core c = record {
  at = low_spot c.at;
  layout = held_layout c.layout;
  raster = held_raster c.raster;
  used = c.used;
  depth = c.depth;
  stack = c.stack;
  seed = c.seed;
}

abbrev pub held : State → State
held t = state_of (held_core t.core) (beside_of (low8 t.beside.method)) t.sequence

-- the numbers of a line JOB, one by one
abbrev pub sixteen : List ℕ → List ℕ
sixteen l =
    get_or l 0 0 ∷ get_or l 1 0 ∷ get_or l 2 0 ∷ get_or l 3 0 ∷ get_or l 4 0 ∷ get_or l 5 0 ∷ get_or l 6 0 ∷ get_or l 7 0 ∷
    get_or l 8 0 ∷ get_or l 9 0 ∷ get_or l 10 0 ∷ get_or l 11 0 ∷ get_or l 12 0 ∷ get_or l 13 0 ∷ get_or l 14 0 ∷ get_or l 15 0 ∷ []

-- what a text of the form comes to: the page measure and the state, or 18
unfoldable pub judged_parked : Parked → Unparked
judged_parked j = answered (cond (parked_sound j) (given j) not_sound)

-- the page measure and the state that are held of a text's numbers, positions and row
unfoldable pub held_parked : Parked → Parked
held_parked j = parked_of j.W j.H (held j.state)

-- what the numbers of a line JOB, the positions and the row come to, as they are held
unfoldable pub judged_text : List ℕ → List Spot → List ℕ → Unparked
judged_text numbers stack seed = judged_parked (held_parked (of_numbers JOB (sixteen numbers) stack seed))

-- and with the row as it was found; nothing may stand behind it
unfoldable pub last_judged : List ℕ → List Spot → Found (List ℕ) → Unparked
last_judged numbers stack wrong = read_refused TextForm
last_judged numbers stack (found bytes []) = judged_text numbers stack (sets (replicate row_holds 0) 0 bytes)
last_judged numbers stack (found bytes (b ∷ s)) = read_refused TextForm

-- what a text that was read comes to when it is judged; one that is not of the form stays so
unfoldable pub judged_read : Option Stored → Unparked
judged_read (Some j) = judged_parked (parked_of j.wide j.high j.state)
judged_read None = read_refused TextForm
