-- A job in steps: a step is one run, its lines, and the page that it ended or the last one. What a step gives, and what all steps write.
use Rattle.std.specs.Prelude.{◌≡◌, ℕ, zero, suc, ◌+◌, Bool, true, false, cond, not, ◌&&◌, List, [], ◌∷◌, ◌++◌, Result, Ok, Err, eqb, length}
use Rattle.common.specs.Stores.{Holds}
use Rattle.rules.specs.declared.Refusal.{Refusal}
use Rattle.rules.specs.Given.{Verdict, Carried, Refused}
use Rattle.rules.specs.declared.State.{State}
use Rattle.rules.specs.Given.{Ran}
use Rattle.rules.specs.Measure.{measure_of, page_bytes}
use Rattle.rules.specs.Findings.{is_refused}
use Rattle.rules.specs.States.{afresh}
use Rattle.rules.specs.Acts.{world}
use Rattle.rules.specs.Run.{Outcome, answer, enough}
use Rattle.rules.specs.Report.{last_lines, counted}
use Rattle.report_laws.specs.Left.{printed}
use Rattle.pages_step.specs.declared.StepDone.{StepDone}
use Rattle.pages_mark.specs.Marks.{marked}
use Rattle.pages_open.specs.Opening.{longest_lines, first_lines, job_refused}
use Rattle.pages_step.specs.Sheets.{pbms, job_pages, job_lines}

-- ---- a step
-- it is allowed more items than any job has: it stops at a finding, a page end or the end of the job
abbrev pub step_items : ℕ
step_items = 2097153

abbrev pub is_over : Ran → Bool
is_over o = eqb o.done 0

-- a page is to be written: one that was ended, or the last if it is used; none of a refused run
abbrev pub has_page : Ran → Bool
has_page o = cond (is_refused o.verdict) false (cond (is_over o) o.state.core.used o.ended)

-- the lines of a run that left the page p, or the last ones where nothing was left to do; none of a refused run
abbrev pub step_lines : ℕ → ℕ → Ran → List ℕ → List ℕ
step_lines number findings o p =
    let lines = cond (is_over o) (last_lines number (world o.state.core p []) findings) (printed marked number o p []) in
    cond (is_refused o.verdict) [] lines

-- what a step leaves, as the paper tells it: whether it was carried out; the state, the place, the number of the page being drawn and the findings so far,
-- all for the next step; where its lines end in the room; whether the page buffer holds a page to be written; whether there is no further step to make
pub record Sheet : Type 0 where
  pub verdict : Verdict
  pub state : State
  pub place : ℕ
  pub number : ℕ
  pub findings : ℕ
  pub end : ℕ
  pub paged : Bool
  pub over : Bool

abbrev pub sheet_of : ℕ → ℕ → Ran → ℕ → Sheet
sheet_of number findings o end = record {
  verdict = o.verdict;
  state = o.state;
  place = o.place;
  number = number + cond o.ended 1 0;
  findings = findings + counted o.finding;
  end = end;
  paged = has_page o;
  over = is_over o;
}

-- a step that is refused tells why, hands back what it was given, and writes nothing
abbrev pub refused_sheet : Refusal → State → ℕ → ℕ → ℕ → Sheet
refused_sheet why t place number findings = record {
  verdict = Refused why;
  state = t;
  place = place;
  number = number;
  findings = findings;
  end = 0;
  paged = false;
  over = true;
}

-- what a program's answer says: what a step left whose run was carried out, and for a refusal what was given
abbrev pub step_sheet : State → ℕ → ℕ → ℕ → Result StepDone Refusal → Sheet
step_sheet t place number findings (Ok d) = record {
  verdict = Carried;
  state = d.state;
  place = d.place;
  number = d.number;
  findings = d.findings;
  end = d.end;
  paged = d.paged;
  over = d.over;
}
step_sheet t place number findings (Err why) = refused_sheet why t place number findings

-- what is promised of a step, whatever it is called with
pub record Stepped (W H : ℕ) (page s : List ℕ) (t : State) (place number findings : ℕ) (room : List ℕ) (r : Sheet) (page' room' : List ℕ) : Type 0 where
  pub given : r ≡ sheet_of number findings (answer W H page s t place step_items).ran r.end
  pub lent : page' ≡ (answer W H page s t place step_items).page
  pub holds : Holds longest_lines (step_lines number findings (answer W H page s t place step_items).ran (answer W H page s t place step_items).page) room room' r.end

-- two outcomes that it allows for one input are equal
abbrev pub OneStep : Type 0
OneStep = (W H : ℕ) (page s : List ℕ) (t : State) (place number findings : ℕ) (room : List ℕ) (r r' : Sheet) (page' page'' room' room'' : List ℕ)
    → Stepped W H page s t place number findings room r page' room' → Stepped W H page s t place number findings room r' page'' room''
    → (r ≡ r') × (page' ≡ page'') × (room' ≡ room'')

-- and so are two answers of a program that are said to be one (`step_sheet`)
abbrev pub OneStepAnswer : Type 0
OneStepAnswer = (t : State) (place number findings : ℕ) (r r' : Result StepDone Refusal) → step_sheet t place number findings r ≡ step_sheet t place number findings r' → r ≡ r'

abbrev pub RefusedStepsWriteNothing : Type 0
RefusedStepsWriteNothing = (W H : ℕ) (page s : List ℕ) (t : State) (place number findings : ℕ) (room : List ℕ) (r : Sheet) (page' room' : List ℕ) (why : Refusal)
    → Stepped W H page s t place number findings room r page' room' → r.verdict ≡ Refused why
    → (r ≡ refused_sheet why t place number findings) × (page' ≡ page) × (room' ≡ room)

-- ---- all steps
-- what steps write
pub record Written : Type 0 where
  pub lines : List ℕ
  pub pages : List (List ℕ)

abbrev pub written : List ℕ → List (List ℕ) → Written
written l p = record { lines = l; pages = p }

-- what a step writes, in front of what the steps behind it write
abbrev pub step_writes : ℕ → ℕ → Outcome → Written → Written
step_writes number findings o more =
    written (step_lines number findings o.ran o.page ++ cond (is_over o.ran) [] more.lines) (cond (has_page o.ran) (o.page ∷ []) [] ++ cond (is_over o.ran) [] more.pages)

-- at most n steps, each on what the one before left, up to the one that says that it is over
unfoldable pub steps : ℕ → ℕ → ℕ → List ℕ → List ℕ → State → ℕ → ℕ → ℕ → Written
steps zero W H s page t place number findings = written [] []
steps (suc n) W H s page t place number findings =
    let o = answer W H page s t place step_items in
    let r = sheet_of number findings o.ran 0 in
    step_writes number findings o (steps n W H s o.page r.state r.place r.number r.findings)

-- the steps of a job from its start, on any page buffer
abbrev pub job_steps : ℕ → ℕ → List ℕ → List ℕ → Written
job_steps W H s page = steps (enough s) W H s page (afresh (measure_of W H)) 0 1 0

-- the first lines and the steps together write the whole job: every line and every page, in order, and nothing else
pub record WritesAll (W H : ℕ) (s page : List ℕ) : Type 0 where
  pub lines : first_lines W H s ++ cond (job_refused W H s) [] (job_steps W H s page).lines ≡ job_lines W H s
  pub pages : cond (job_refused W H s) [] (pbms W H (job_steps W H s page).pages) ≡ job_pages W H s

abbrev pub StepsWriteTheJob : Type 0
StepsWriteTheJob = (W H : ℕ) (s page : List ℕ) → length page ≡ page_bytes (measure_of W H) → WritesAll W H s page

-- at most n steps, each on what the one before left, up to the one that says that it is over: none of them is refused
unfoldable pub all_carried : ℕ → ℕ → ℕ → List ℕ → List ℕ → State → ℕ → Bool
all_carried zero W H s page t place = true
all_carried (suc n) W H s page t place =
    let o = answer W H page s t place step_items in
    not (is_refused o.ran.verdict) && cond (is_over o.ran) true (all_carried n W H s o.page o.ran.state o.ran.place)

-- on a job that is not refused as a whole every step is carried out
abbrev pub StepsAreCarried : Type 0
StepsAreCarried = (W H : ℕ) (s page : List ℕ) → job_refused W H s ≡ false → length page ≡ page_bytes (measure_of W H)
    → all_carried (enough s) W H s page (afresh (measure_of W H)) 0 ≡ true
