-- Paper 02, P1: a state written as text, and read back.
use Rattle.std.specs.Prelude.{Result, Ok, Err, ℕ, ◌-◌, ◌/◌, Bool, true, false, cond, not, ◌&&◌, List, [], ◌∷◌, ◌++◌, ltb, length, take, drop, replicate}
use Rattle.common.specs.Lists.{pad}
use Rattle.rules.specs.declared.Spot.{Spot}
use Rattle.rules.specs.declared.Refusal.{Refusal}
use Rattle.rules.specs.declared.Refusal.TheVariants.{PageMeasure, UnsoundState, Room, SequenceOpen, TextForm, TextState}
use Rattle.rules.specs.declared.Sequence.{Sequence}
use Rattle.rules.specs.declared.Sequence.TheVariants.{Closed, Open}
use Rattle.rules.specs.declared.State.{State}
use Rattle.rules.specs.Given.{Verdict}
use Rattle.rules.specs.Given.{Carried, Refused}
use Rattle.rules.specs.Given.{Parking}
use Rattle.rules.specs.Given.{Unparked}
use Rattle.rules.specs.declared.Stored.{Stored}
use Rattle.rules.specs.Measure.{allowed, measure_of, stack_holds, row_holds, origin}
use Rattle.rules.specs.States.{beside_of}
use Rattle.rules.specs.Sound.{sound}
use Rattle.rules.specs.Report.{line}
use Rattle.rules.specs.Texts.{Found, wrong, found, then, many, put_many, line_of, position, put_position, row, put_row}
use Rattle.rules.specs.Forms.{Parked, parked_of, measured, Member, Form, flags_of, JOB}

-- ---- between a form's members and its numbers
abbrev pub give_out : List Member → Parked → List ℕ
give_out [] j = []
give_out (m ∷ l) j = m.get j ∷ give_out l j

abbrev pub take_in : List Member → List ℕ → Parked → Parked
take_in [] ns j = j
take_in (m ∷ l) [] j = j
take_in (m ∷ l) (n ∷ ns) j = take_in l ns (m.set n j)

-- a state of these lists, every number 0, no sequence open
abbrev pub blank_state : List Spot → List ℕ → State
blank_state stack seed = record {
  core = record {
    at = origin;
    layout = record { left = 0; right = 0; top = 0; hmi = 0; vmi = 0; termination = 0 };
    raster = record { resolution = 0; started = false; margin = 0 };
    used = false;
    depth = 0;
    stack = stack;
    seed = seed;
  };
  beside = beside_of 0;
  sequence = Closed;
}

abbrev pub of_numbers : Form → List ℕ → List Spot → List ℕ → Parked
of_numbers f ns stack seed = take_in f.members ns (parked_of 0 0 (blank_state stack seed))

-- "W/8 is cut down"
abbrev pub row_bytes : Parked → ℕ
row_bytes j = j.W / 8

abbrev pub depth_of : Parked → ℕ
depth_of j = j.state.core.depth

-- ---- writing
-- what the lines of a text say: its numbers, its positions, its row
pub record Lines : Type 0 where
  pub numbers : List ℕ
  pub spots : List Spot
  pub bytes : List ℕ

abbrev pub lines_of : List ℕ → List Spot → List ℕ → Lines
lines_of ns l b = record { numbers = ns; spots = l; bytes = b }

-- "a line JOB ..; then one line POS, x, y for each ..; then a line ROW .. LF ends each line."
unfoldable pub print : Form → Lines → List ℕ → List ℕ
print f r s = line f.word r.numbers (put_many put_position r.spots (put_row r.bytes s))

-- "one line POS, x, y for each stacked position, deepest first", "the seed row's W/8 bytes"
unfoldable pub lines_from : Form → Parked → Lines
lines_from f j = lines_of (give_out f.members j) (take (depth_of j) j.state.core.stack) (take (row_bytes j) j.state.core.seed)

unfoldable pub write : Form → Parked → List ℕ
write f j = print f (lines_from f j) []

-- ---- reading: the form first
-- what the numbers say of the lines that follow. "depth is the number of POS lines"
abbrev pub shape : Form → List ℕ → Parked
shape f ns = of_numbers f ns [] []

unfoldable pub lines : Form → List ℕ → Found Lines
lines f s =
    then (line_of f.word (flags_of f.members) s) (λ ns r.
    then (many position (depth_of (shape f ns)) r) (λ l q.
    then (row (row_bytes (shape f ns)) q) (λ b t. found (lines_of ns l b) t)))

-- ---- and the state second
-- a state's stack and seed row. "whose free places are 0, 0", "seed bytes from W/8 on zero"
abbrev pub stack_with : List Spot → List Spot
stack_with l = l ++ replicate (stack_holds - length l) origin

abbrev pub of_lines : Form → Lines → Parked
of_lines f r = of_numbers f r.numbers (stack_with r.spots) (pad row_holds r.bytes)

-- "measure .. allowed", "state .. sound"
unfoldable pub parked_sound : Parked → Bool
parked_sound j = allowed j.W j.H && sound (measured j) j.state

-- "17 text not of this form, 18 form right but measure not allowed or state not sound, both with no state; each in that order"
pub data Answer : Type 0 where
  given : Parked → Answer
  not_of_form : Answer
  not_sound : Answer

-- nothing may stand behind the last line
unfoldable pub judged : Form → Found Lines → Answer
judged f wrong = not_of_form
judged f (found r []) = cond (parked_sound (of_lines f r)) (given (of_lines f r)) not_sound
judged f (found r (b ∷ s)) = not_of_form

unfoldable pub read : Form → List ℕ → Answer
read f s = judged f (lines f s)

-- ---- the calls
-- what writing comes to: the struct that is given, and the room's bytes
pub record Stowed : Type 0 where
  pub parking : Parking
  pub room : List ℕ

abbrev pub stowed : Verdict → ℕ → List ℕ → Stowed
stowed v n room = record { parking = record { verdict = v; length = n }; room = room }

abbrev pub stow_refused : Refusal → List ℕ → Stowed
stow_refused r room = stowed (Refused r) 0 room

-- what a program's answer says: the length of the text, or why there is none
abbrev pub parking : Result ℕ Refusal → Parking
parking (Ok n) = (stowed Carried n []).parking
parking (Err why) = (stow_refused why []).parking

-- 16: "sequence open"
abbrev pub is_open : Sequence → Bool
is_open Closed = false
is_open (Open first group) = true

-- "writing gives 10, 13, 16 sequence open, 15 text longer than its room; .. each in that order". Room beyond the text stays untouched.
unfoldable pub park : ℕ → ℕ → State → List ℕ → Stowed
park W H t room =
    let text = write JOB (parked_of W H t) in
    let given = stowed Carried (length text) (text ++ drop (length text) room) in
    cond (not (allowed W H)) (stow_refused PageMeasure room)
    (cond (not (sound (measure_of W H) t)) (stow_refused UnsoundState room)
    (cond (is_open t.sequence) (stow_refused SequenceOpen room)
    (cond (ltb (length room) (length text)) (stow_refused Room room)
    given)))

-- "both with no state": in its place stands one that is sound on no page, beside a measure that no page has
abbrev pub no_state : State
no_state = blank_state (replicate stack_holds origin) (replicate row_holds 0)

abbrev pub read_refused : Refusal → Unparked
read_refused r = record { verdict = Refused r; wide = 0; high = 0; state = no_state }

-- what a program's answer says: what the text holds, or why it holds nothing
abbrev pub unparked : Result Stored Refusal → Unparked
unparked (Ok j) = record { verdict = Carried; wide = j.wide; high = j.high; state = j.state }
unparked (Err why) = read_refused why

abbrev pub answered : Answer → Unparked
answered (given j) = record { verdict = Carried; wide = j.W; high = j.H; state = j.state }
answered not_of_form = read_refused TextForm
answered not_sound = read_refused TextState

unfoldable pub unpark : List ℕ → Unparked
unpark s = answered (read JOB s)
