-- What a program says of a job: the text that a call wrote for it, or "a refusal .. in one line", REFUSED and its number.
use Rattle.std.specs.Prelude.{◌≡◌, Result, Ok, Err, List, ℕ, ◌≤◌, length}
use Rattle.std.proofs.lemmas.List.Edits.{sets}
use Rattle.common.specs.Stores.{Wrote}
use Rattle.rules.specs.declared.Refusal.{Refusal}
use Rattle.rules.specs.Given.{Verdict, Carried, Refused}
use Rattle.rules.specs.Findings.{is_refused}
use Rattle.rules.specs.Report.{refused_line}
use Rattle.report_verdict.specs.declared.Saying.{Saying}

-- the length of the text that a call wrote, 0 where it is refused
abbrev pub length_of : Result ℕ Refusal → ℕ
length_of (Ok n) = n
length_of (Err why) = 0

-- the n bytes at the front of the room, which stays as it is; or the line of the refusal, written there
abbrev pub ends : Verdict → ℕ → List ℕ → ℕ → List ℕ → Type 0
ends Carried n room end after = (end ≡ n) × (after ≡ room)
ends (Refused why) n room end after = Wrote room 0 (refused_line why) after end

-- by its verdict and that length
pub record SaysVerdict (v : Verdict) (n : ℕ) (room : List ℕ) (r : Saying) (after : List ℕ) : Type 0 where
  pub refused : r.refused ≡ is_refused v
  pub ended : ends v n room r.end after

-- ---- of a text
-- what a call that is to write a text leaves: all of it, from the start of the room on; the room as it was where it is refused
abbrev pub Leaves : List ℕ → List ℕ → Verdict → ℕ → List ℕ → Type 0
Leaves text room Carried n after = (length text ≤ length room) × (n ≡ length text) × (after ≡ sets room 0 text)
Leaves text room (Refused why) n after = after ≡ room

-- by the verdict
abbrev pub said_by : Verdict → List ℕ → List ℕ
said_by Carried text = text
said_by (Refused why) text = refused_line why

-- what is said stands at the front of the room, as far as there is room, and the rest of the room is as it was
pub record SaysText (v : Verdict) (bytes room : List ℕ) (r : Saying) (after : List ℕ) : Type 0 where
  pub refused : r.refused ≡ is_refused v
  pub text : Wrote room 0 (said_by v bytes) after r.end
