-- What a step writes into its room, and that the room is always large enough. Assumes nothing.
use mathlib.Core.Path.{◌≡◌, refl}
use Prim.Native.Nat.{ℕ, ◌+◌, ◌≤◌}
use native.Mathlib.Nat.{add-zero}
use native.Mathlib.Omega.{arith}
use Rattle.std.specs.Prelude.{Ok, Err}
use mathlib.Core.List.{List, [], ◌∷◌}
use mathlib.Core.Bool.{Bool, cond}
use lib.Dec.{eqb}
use lib.ListN.{length}
use borrow.Author.Tests.{ne_eqb}
use Rattle.common.specs.Bits.{ones_all}
use Rattle.common.specs.Stores.{Wrote}
use Rattle.common.specs.declared.writer.Writer.{Writer}
use Rattle.common.specs.Writing.{Written}
use Rattle.common.proofs.Choices.{choice}
use Rattle.rules.specs.declared.Progress.{Progress}
use Rattle.rules.specs.declared.Refusal.{Refusal}
use Rattle.rules.specs.declared.State.{State}
use Rattle.rules.specs.Given.{Ran}
use Rattle.rules.specs.Findings.{finding_number, is_clean, is_refused}
use Rattle.rules.specs.Acts.{World, world}
use Rattle.rules.specs.Run.{carried, ran}
use Rattle.rules.specs.Report.{line, PAGE, END, last_lines, counted, told}
use Rattle.theorems.specs.Statements.{RunPromise}
use Rattle.report_laws.specs.Left.{printed}
use Rattle.report_laws.proofs.Bound.{end_length, four_length}
use Rattle.report_laws.proofs.Reporting.{wrote_told}
use Rattle.pages_mark.specs.Marks.{MARK, marked}
use Rattle.pages_mark.proofs.Marking.{marked_ahead}
use Rattle.pages_open.specs.Opening.{longest_lines}
use Rattle.report_laws.proofs.Whole.{held}
use Rattle.pages_open.proofs.Holding.{two_most}
use Rattle.pages_step.specs.Steps.{is_over, has_page, step_lines, step_items, refused_sheet, step_sheet, Stepped}

-- ---- how long
-- the line of a page in front of s
page_most : (number dots : ℕ) (s : List ℕ) → length (line PAGE (number ∷ dots ∷ []) s) ≤ 47 + length s
page_most number dots s = let e = two_most number dots s in omega arith

-- the last lines
last_most : (number : ℕ) (w : World) (n : ℕ) → length (last_lines number w n) ≤ longest_lines
last_most number w n =
    let end : List ℕ = line END (w.core.at.x ∷ w.core.at.y ∷ w.core.depth ∷ n ∷ []) [] in
    let e : length end ≤ 88 = end_length w.core.at.x w.core.at.y w.core.depth n in
    choice (λ (r : List ℕ). length r ≤ longest_lines) w.core.used (omega (arith, page_most number (ones_all w.page) end)) (omega arith)

-- the lines of a run
printed_most : (number : ℕ) (o : Ran) (p : List ℕ) → length (printed marked number o p []) ≤ longest_lines
printed_most number o p =
    let page : List ℕ = cond o.ended (line PAGE (number ∷ ones_all p ∷ []) []) [] in
    let e : length page ≤ 47 = choice (λ (l : List ℕ). length l ≤ 47) o.ended (omega (arith, page_most number (ones_all p) [])) (omega arith) in
    let m = four_length MARK o.found (finding_number o.finding) o.began.x o.began.y page in
    let i = two_most o.found (finding_number o.finding) (line MARK (o.found ∷ finding_number o.finding ∷ o.began.x ∷ o.began.y ∷ []) page) in
    choice (λ (l : List ℕ). length l ≤ longest_lines) (is_clean o.finding) (omega arith) (omega arith)

-- the lines of a step
step_most : (number findings : ℕ) (o : Ran) (p : List ℕ) → length (step_lines number findings o p) ≤ longest_lines
step_most number findings o p = choice (λ (l : List ℕ). length l ≤ longest_lines) (is_refused o.verdict) (omega arith)
    (choice (λ l. length l ≤ longest_lines) (is_over o) (last_most number (world o.state.core p []) findings) (printed_most number o p))

-- ---- what is written
-- the lines of a finding and its mark, and of a page
pub step_told : {a b c : Writer} (number findings : ℕ) (o : Progress) (p : List ℕ) → (o.done ≡ 0 → ⊥) → Written a (told marked o.began o.found o.finding []) b
    → Written b (cond o.ended (line PAGE (number ∷ ones_all p ∷ []) []) []) c → Written a (step_lines number findings (carried o) p) c
step_told number findings o p z u w = rw (ne_eqb o.done 0 z) (wrote_told marked marked_ahead number (carried o) p u w)

module _ {W H : ℕ} {page s : List ℕ} {t : State} {place number findings : ℕ} {room page' : List ℕ} where
  -- a step whose run was carried out
  pub stepped : {room' : List ℕ} {o : Progress} {end i j : ℕ} {there : Bool}
      → RunPromise W H page s t place step_items (carried o) page' → Wrote room 0 (step_lines number findings (carried o) page') room' end → there ≡ has_page (carried o)
      → i ≡ cond o.ended 1 0 → j ≡ counted o.finding
      → Stepped W H page s t place number findings room (step_sheet t place number findings (Ok (record { state = o.state; place = o.place; number = number + i; findings = findings + j; end = end; paged = there; over = eqb o.done 0 }))) page' room'
  stepped {o = o} p w d x y = record {
    given = rw (← p.given, d, x, y);
    lent = p.lent;
    holds = rw (← p.given, ← p.lent) (held (step_most number findings (carried o) page') w);
  }

  -- one whose run was refused
  pub step_refused : (why : Refusal) → RunPromise W H page s t place step_items (ran t place (Err why)) page' → Stepped W H page s t place number findings room (refused_sheet why t place number findings) page' room
  step_refused why p = record {
    given = rw (← p.given, add-zero number, add-zero findings);
    lent = p.lent;
    holds = rw (← p.given) (held (omega arith) (record { next = omega arith; held = refl }));
  }
