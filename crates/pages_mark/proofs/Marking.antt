-- The lines of a finding and its mark. Assumes nothing.
use Rattle.std.proofs.Common.{◌≡◌, ap, ◌∙◌, false, [], ◌∷◌, ℕ}
use Rattle.common.specs.declared.writer.Writer.{Writer}
use Rattle.common.specs.Writing.{Written}
use Rattle.common.proofs.Writing.{written_both}
use Rattle.rules.specs.declared.Finding.{Finding}
use Rattle.rules.specs.declared.Spot.{Spot}
use Rattle.rules.specs.Findings.{finding_number, is_clean}
use Rattle.rules.specs.Report.{line, FAULT, fault, told}
use Rattle.report_line.proofs.Texts.{line_append}
use Rattle.report_laws.proofs.Reporting.{Ahead}
use Rattle.pages_mark.specs.Marks.{MARK, marked}

-- they stand in front of what follows
pub marked_ahead : Ahead marked
marked_ahead began at n s t =
    ap (line FAULT (at ∷ n ∷ [])) (line_append MARK (at ∷ n ∷ began.x ∷ began.y ∷ []) s t)
    ∙ line_append FAULT (at ∷ n ∷ []) (line MARK (at ∷ n ∷ began.x ∷ began.y ∷ []) s) t

-- a finding has its line, and its mark behind it
pub wrote_marked : {a b c : Writer} (place : ℕ) (f : Finding) (began : Spot) → Written a (fault place f []) b → is_clean f ≡ false
    → Written b (line MARK (place ∷ finding_number f ∷ began.x ∷ began.y ∷ []) []) c → Written a (told marked began place f []) c
wrote_marked place f began v e w =
    let n = finding_number f in
    rw (e, line_append FAULT (place ∷ n ∷ []) [] (line MARK (place ∷ n ∷ began.x ∷ began.y ∷ []) [])) (written_both (rw e at v) w)
