-- A text that fits its room is there whole; the whole report, written. Assumes nothing.
use Rattle.std.proofs.Common.{◌≡◌, refl, sym, ◌∙◌, ℕ, ◌≤◌, ◌<◌, arith, List, [], ◌∷◌, length, take, take_at, lt-ltb, le-ltb}
use Rattle.std.proofs.lemmas.List.Edits.{sets-eq}
use Rattle.common.specs.Stores.{Wrote, Holds}
use Rattle.common.specs.declared.writer.Writer.{Writer}
use Rattle.common.specs.Writing.{Written}
use Rattle.common.proofs.Writing.{written_both}
use Rattle.rules.specs.declared.Refusal.TheVariants.{StreamLength}
use Rattle.rules.specs.Report.{line, SIZE, report_limit, report_width, report_height, report_page, report, fault_alone, refused_line, stream_lines}
use Rattle.report_line.proofs.Texts.{line_append}
use Rattle.report_laws.specs.Bound.{Reported, OneReport}
use Rattle.report_laws.proofs.Bound.{reports_fit}

-- ---- a text at the front of a room
-- a text within the bound that was written is there whole, where there is room for the longest
pub held : {most : ℕ} {text before after : List ℕ} {r : ℕ} → length text ≤ most → Wrote before 0 text after r → Holds most text before after r
held {most} {text} {before} {after} {r} fit w = record { wrote = w; whole = whole }
  where
    whole : most ≤ length before → take r after ≡ text
    whole h =
        let e : r ≡ length text = w.next ∙ omega arith in
        rw (e, w.held, sets-eq text before 0 (omega arith)) (take_at text _ (length text) refl)

-- where it ends and what the room then holds are settled
pub held_once : {most : ℕ} {text before after after' : List ℕ} {r r' : ℕ} → Holds most text before after r → Holds most text before after' r' → (r ≡ r') × (after ≡ after')
held_once p q = (p.wrote.next ∙ sym q.wrote.next, p.wrote.held ∙ sym q.wrote.held)

-- ---- the report
-- what was written of it is settled
pub one_report : OneReport
one_report s before after after' r r' p q = held_once p q

module _ {a b c : Writer} (s : List ℕ) (front : a.at ≡ 0) (size : Written a (line SIZE (report_width ∷ report_height ∷ []) []) b) where
  -- a report that was written from the front of the room on
  reported : Written a (report s) c → Reported s a.room.now c.room.now c.at
  reported w = held (reports_fit s) (rw front at w.wrote)

  -- of a stream within the limit: SIZE, and its lines
  pub reported_lines : length s ≤ report_limit → Written b (stream_lines fault_alone report_page s) c → Reported s a.room.now c.room.now c.at
  unfolding report
  reported_lines h w =
      reported (rw (le-ltb report_limit (length s) h, line_append SIZE (report_width ∷ report_height ∷ []) [] (stream_lines fault_alone report_page s)) (written_both size w))

  -- of a longer one: SIZE and REFUSED
  pub reported_refusal : report_limit < length s → Written b (refused_line StreamLength) c → Reported s a.room.now c.room.now c.at
  unfolding report
  reported_refusal h w =
      reported (rw (lt-ltb report_limit (length s) h, line_append SIZE (report_width ∷ report_height ∷ []) [] (refused_line StreamLength)) (written_both size w))
