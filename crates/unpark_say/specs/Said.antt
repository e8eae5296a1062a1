-- What the program `unpark` says of a text: what it holds, a line for each member and then the positions and the row; or a refusal in one line.
use Rattle.std.specs.Prelude.{Result, Ok, Err, ◌≡◌, true, cond, List, [], ◌∷◌, ℕ, ◌≤◌, length, take}
use Rattle.common.specs.Stores.{Wrote}
use Rattle.rules.specs.declared.Refusal.{Refusal}
use Rattle.rules.specs.declared.Refusal.TheVariants.{StreamLength}
use Rattle.rules.specs.Given.{Verdict}
use Rattle.rules.specs.Given.{Carried, Refused}
use Rattle.rules.specs.Given.{Unparked}
use Rattle.rules.specs.Measure.{is_too_long}
use Rattle.rules.specs.Texts.{put_many, put_position, put_row}
use Rattle.rules.specs.Forms.{Parked, parked_of, JOB}
use Rattle.rules.specs.Park.{give_out, depth_of, row_bytes, unpark}
use Rattle.rules.specs.Report.{line}
use Rattle.report_verdict.specs.declared.Saying.{Saying}
use Rattle.report_verdict.specs.Said.{said_by, SaysText}

-- ---- the names of the members, in the order of the line JOB
abbrev pub name_w : List ℕ
name_w = 87 ∷ []

abbrev pub name_h : List ℕ
name_h = 72 ∷ []

abbrev pub name_x : List ℕ
name_x = 120 ∷ []

abbrev pub name_y : List ℕ
name_y = 121 ∷ []

abbrev pub name_l : List ℕ
name_l = 76 ∷ []

abbrev pub name_r : List ℕ
name_r = 82 ∷ []

abbrev pub name_t : List ℕ
name_t = 84 ∷ []

abbrev pub name_hmi : List ℕ
name_hmi = 72 ∷ 77 ∷ 73 ∷ []

abbrev pub name_vmi : List ℕ
name_vmi = 86 ∷ 77 ∷ 73 ∷ []

abbrev pub name_termination : List ℕ
name_termination = 116 ∷ 101 ∷ 114 ∷ 109 ∷ 105 ∷ 110 ∷ 97 ∷ 116 ∷ 105 ∷ 111 ∷ 110 ∷ []

abbrev pub name_resolution : List ℕ
name_resolution = 114 ∷ 101 ∷ 115 ∷ 111 ∷ 108 ∷ 117 ∷ 116 ∷ 105 ∷ 111 ∷ 110 ∷ []

abbrev pub name_method : List ℕ
name_method = 109 ∷ 101 ∷ 116 ∷ 104 ∷ 111 ∷ 100 ∷ []

abbrev pub name_started : List ℕ
name_started = 115 ∷ 116 ∷ 97 ∷ 114 ∷ 116 ∷ 101 ∷ 100 ∷ []

abbrev pub name_margin : List ℕ
name_margin = 109 ∷ 97 ∷ 114 ∷ 103 ∷ 105 ∷ 110 ∷ []

abbrev pub name_used : List ℕ
name_used = 117 ∷ 115 ∷ 101 ∷ 100 ∷ []

abbrev pub name_depth : List ℕ
name_depth = 100 ∷ 101 ∷ 112 ∷ 116 ∷ 104 ∷ []

abbrev pub names : List (List ℕ)
names =
    name_w ∷ name_h ∷ name_x ∷ name_y ∷ name_l ∷ name_r ∷ name_t ∷ name_hmi ∷ name_vmi ∷
    name_termination ∷ name_resolution ∷ name_method ∷ name_started ∷ name_margin ∷ name_used ∷ name_depth ∷ []

-- a line for each member: its name and its number
unfoldable pub member_lines : List (List ℕ) → List ℕ → List ℕ → List ℕ
member_lines [] l s = s
member_lines (name ∷ more) [] s = s
member_lines (name ∷ more) (n ∷ l) s = line name (n ∷ []) (member_lines more l s)

-- ---- what is said
-- the members, and the lines POS and ROW as the text has them
unfoldable pub holds : Parked → List ℕ
holds j =
    member_lines names (give_out JOB.members j)
    (put_many put_position (take (depth_of j) j.state.core.stack) (put_row (take (row_bytes j) j.state.core.seed) []))

abbrev pub held_by : Unparked → List ℕ
held_by u = holds (parked_of u.wide u.high u.state)

-- 17 and 18 as reading gives them; 12 for what is longer than the program's place, as the report has it for its own limit
abbrev pub verdict_of : List ℕ → Verdict
verdict_of s = cond (is_too_long s) (Refused StreamLength) (unpark s).verdict

-- what is written of a text: what it holds, from the start of the room on, as far as there is room; nothing where it is refused
abbrev pub Tells : List ℕ → List ℕ → Result ℕ Refusal → List ℕ → Type 0
Tells s room (Ok end) after = (verdict_of s ≡ Carried) × Wrote room 0 (held_by (unpark s)) after end
Tells s room (Err why) after = (verdict_of s ≡ Refused why) × (after ≡ room)

-- by that verdict
abbrev pub Says : List ℕ → List ℕ → Saying → List ℕ → Type 0
Says s room r after = SaysText (verdict_of s) (held_by (unpark s)) room r after

-- ---- what holds of it
-- One outcome: two sayings that the promise allows for one input are equal, and so is every byte of the room.
abbrev pub OneSaying : Type 0
OneSaying = (s room : List ℕ) (r r' : Saying) (after after' : List ℕ) → Says s room r after → Says s room r' after' → (r ≡ r') × (after ≡ after')

-- A room of so many bytes is always enough: 1,905 is the longest text, and 74 more are the names with the ends of their lines.
abbrev pub longest_said : ℕ
longest_said = 1979

abbrev pub SaidWhole : Type 0
SaidWhole = (s room : List ℕ) (r : Saying) (after : List ℕ) → Says s room r after → longest_said ≤ length room → take r.end after ≡ said_by (verdict_of s) (held_by (unpark s))

-- By 12 nothing is lost: no text that reads is so long.
abbrev pub LongTextsDoNotRead : Type 0
LongTextsDoNotRead = (s : List ℕ) → is_too_long s ≡ true → (unpark s).verdict ≡ Carried → ⊥
