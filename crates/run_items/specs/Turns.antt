-- One item of a run, as code gives it.
use Rattle.std.specs.Prelude.{◌≡◌, Bool, not, ◌&&◌, List, [], ℕ, ◌+◌, ◌≤◌, ◌<◌, ltb, length, drop, get_or}
use Rattle.common.specs.Lists.{is_nil}
use Rattle.rules.specs.declared.Measure.{Measure}
use Rattle.rules.specs.declared.Sequence.{Sequence}
use Rattle.rules.specs.declared.Spot.{Spot}
use Rattle.rules.specs.declared.Finding.{Finding}
use Rattle.rules.specs.declared.State.{State}
use Rattle.rules.specs.Given.{Ran}
use Rattle.rules.specs.Measure.{blank}
use Rattle.rules.specs.Items.{is_text}
use Rattle.rules.specs.Acts.{World, world, show_all, Step, step, is_closed}
use Rattle.rules.specs.Given.{Carried}
use Rattle.rules.specs.Run.{Outcome, page_of, place_of, spot_of}

-- whether the item at a place is space or text: no sequence is open there
abbrev pub text_next : List ℕ → ℕ → Sequence → Bool
text_next s at q = ltb at (length s) && is_closed q && is_text (get_or s at 0)

-- the page and the pages handed over behind the acts of a step
abbrev pub shown_by : Measure → Step → State → List ℕ → World
shown_by g d t p = show_all g d.done.acts (world t.core p [])

-- what one item comes to besides the page: the state and the place behind it, its finding, and whether it ended the page
pub record Taken : Type 0 where
  pub state : State
  pub next : ℕ
  pub finding : Finding
  pub ended : Bool

-- the item at the place `at` of the stream s, done in the state t on the page p, as the rules do it
pub record ItemDone (g : Measure) (t : State) (p s : List ℕ) (at : ℕ) (r : Taken) (after : List ℕ) : Type 0 where
  -- the state behind it
  pub state : r.state ≡ (step g t (drop at s)).state
  -- its finding
  pub finding : r.finding ≡ (step g t (drop at s)).done.finding
  -- whether it ended the page
  pub ended : r.ended ≡ not (is_nil (shown_by g (step g t (drop at s)) t p).handed)
  -- the page's bytes: those handed over where it ended
  pub page : after ≡ page_of (shown_by g (step g t (drop at s)) t p).handed (shown_by g (step g t (drop at s)) t p).page
  -- the place behind it
  pub next : r.next ≡ at + (step g t (drop at s)).done.took
  -- from there on is what the rules leave
  pub left : drop r.next s ≡ (step g t (drop at s)).rest
  -- it is not beyond the end
  pub inside : r.next ≤ length s

-- what a run gives that stops behind an item, which began at the place `begins` of the stream, with the cursor at `from`
abbrev pub stop_of : Taken → ℕ → Spot → ℕ → Ran
stop_of r begins from done = record {
  verdict = Carried;
  state = r.state;
  place = r.next;
  finding = r.finding;
  found = place_of r.finding begins;
  began = spot_of r.finding from;
  ended = r.ended;
  done = done;
}

-- a run gives this outcome: the struct and the page's bytes
pub record RunsOn (o : Outcome) (r : Ran) (after : List ℕ) : Type 0 where
  pub given : r ≡ o.ran
  pub lent : after ≡ o.page

-- how many bytes of the page are known to be zero before a run on the page p, and behind it: no more than before, and where there are any, a page
-- that was blank is blank
pub record StillBlank (g : Measure) (p : List ℕ) (zeros : ℕ) (p' : List ℕ) (zeros' : ℕ) : Type 0 where
  pub few : zeros' ≤ zeros
  pub still : 0 < zeros' → p ≡ blank g → p' ≡ blank g
