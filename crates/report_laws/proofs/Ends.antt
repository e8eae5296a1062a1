-- Which items end a page: none with a finding, and none of an open sequence. Assumes nothing.
use mathlib.Core.Path.{◌≡◌, refl, ap, sym, ◌∙◌}
use mathlib.Core.List.{List, [], ◌∷◌}
use mathlib.Core.Bool.{false, ◌&&◌, true≢false}
use lib.ListN.{length, take}
use Prim.Native.Nat.{ℕ, suc, ◌+◌, ◌*◌, ◌-◌, ◌≤◌}
use native.Mathlib.Omega.{arith}
use lib.Dec.{eqb, leb, ltb}
use Rattle.common.specs.Choice.{within}
use Rattle.common.specs.Lists.{is_nil}
use Rattle.common.proofs.Choices.{choice}
use Rattle.rules.specs.declared.Measure.{Measure}
use Rattle.rules.specs.declared.Value.{Value}
use Rattle.rules.specs.declared.Sequence.{Sequence}
use Rattle.rules.specs.declared.Sequence.TheVariants.{Closed, Open}
use Rattle.rules.specs.declared.Command.{Command}
use Rattle.rules.specs.declared.Command.TheVariants.{Valued, Method, Print, Row, Unknown}
use Rattle.rules.specs.declared.Code.TheVariants.{CarriageReturn, LineFeed, FormFeed, Backspace, Tab}
use Rattle.rules.specs.declared.Escape.TheVariants.{Reset, ClearMargins, HalfLine}
use Rattle.rules.specs.declared.Core.{Core}
use Rattle.rules.specs.declared.Beside.{Beside}
use Rattle.rules.specs.declared.State.{State}
use Rattle.rules.specs.Findings.{is_clean}
use Rattle.rules.specs.Number.{whole_part, count, value}
use Rattle.rules.specs.Commands.{whole, use_of, used_value, is_negative, chosen}
use Rattle.rules.specs.Codes.{code_byte, escape_byte}
use Rattle.rules.specs.Items.{Item, text, code, two, command, broken, Reading, has_payload, payload, letter, parameter, is_text, read}
use Rattle.rules.specs.Acts.{Act, type, control, escape, order, print, ends_page, world, show, show_all, bar, gate, Meaning, mean_code, mean_two, mean_row, mean_command, mean, step, is_closed, over}
use Rattle.theorems.proofs.Reading.{left, Under, escape_sane}

module _ (g : Measure) where
  -- a meaning with a finding hands no page over
  Apart : Meaning → Type 0
  Apart o = is_clean o.finding ≡ false → (c : Core) (p : List ℕ) → (show_all g o.acts (world c p [])).handed ≡ []

  gate_apart : (a : Act) (c : Core) (m : Beside) → Apart (gate g a c m)
  unfolding gate Apart show_all
  gate_apart a c m = choice Apart (is_clean (bar g a c)) (λ e d p. absurd (true≢false e)) (λ e d p. refl)

  code_apart : (b : ℕ) (c : Core) (m : Beside) → Apart (mean_code g b c m)
  unfolding mean_code Apart show_all
  code_apart b c m =
      choice Apart (eqb b (code_byte CarriageReturn)) (gate_apart (control CarriageReturn) c m)
      (choice Apart (eqb b (code_byte LineFeed)) (gate_apart (control LineFeed) c m)
      (choice Apart (eqb b (code_byte FormFeed)) (gate_apart (control FormFeed) c m)
      (choice Apart (eqb b (code_byte Backspace)) (gate_apart (control Backspace) c m)
      (choice Apart (eqb b (code_byte Tab)) (gate_apart (control Tab) c m) (λ e d p. refl)))))

  two_apart : (b : ℕ) (c : Core) (m : Beside) → Apart (mean_two g b c m)
  unfolding mean_two Apart show_all
  two_apart b c m =
      choice Apart (eqb b (escape_byte Reset)) (gate_apart (escape Reset) c m)
      (choice Apart (eqb b (escape_byte ClearMargins)) (gate_apart (escape ClearMargins) c m)
      (choice Apart (eqb b (escape_byte HalfLine)) (gate_apart (escape HalfLine) c m) (λ e d p. refl)))

  command_apart : (k : Command) (p : List ℕ) (c : Core) (m : Beside) → Apart (mean_command g k p c m)
  unfolding mean_command mean_row Apart show_all show ends_page
  command_apart (Valued k v) p c m = choice Apart (is_negative (use_of k) v) (λ e d q. refl) (gate_apart (order k (used_value (use_of k) v)) c m)
  command_apart (Method v) p c m = choice Apart (is_negative whole v) (λ e d q. refl) (choice Apart (leb (whole_part v) 3) (λ e d q. refl) (λ e d q. refl))
  command_apart (Print v) p c m = choice Apart (is_negative whole v) (λ e d q. refl) (gate_apart (print p) c m)
  command_apart (Row v) p c m = choice Apart (is_negative whole v) (λ e d q. refl) (λ e d q. refl)
  command_apart Unknown p c m = λ e d q. refl

  mean_apart : (i : Item) (c : Core) (m : Beside) → Apart (mean g i c m)
  unfolding mean Apart show_all
  mean_apart (text b) c m = gate_apart (type b) c m
  mean_apart (code b) c m = code_apart b c m
  mean_apart (two b) c m = two_apart b c m
  mean_apart (command k p) c m = command_apart k p c m
  mean_apart (broken f) c m = λ e d p. refl

  -- an item with a finding hands no page over
  pub step_apart : (t : State) (s p : List ℕ) → is_clean (step g t s).done.finding ≡ false → (show_all g (step g t s).done.acts (world t.core p [])).handed ≡ []
  unfolding step Apart
  step_apart t s p e = mean_apart (read t.sequence s).item t.core t.beside e t.core p

  -- ---- an open sequence has commands and broken pieces alone
  -- a meaning that hands no page over
  Quiet : Meaning → Type 0
  Quiet o = (c : Core) (p : List ℕ) → (show_all g o.acts (world c p [])).handed ≡ []

  gate_quiet : (a : Act) (c : Core) (m : Beside) → ((d : Core) → ends_page a d ≡ false) → Quiet (gate g a c m)
  unfolding gate Quiet show_all show
  gate_quiet a c m h = choice Quiet (is_clean (bar g a c)) (λ d p. rw (h d)) (λ d p. refl)

  command_quiet : (k : Command) (s : List ℕ) (c : Core) (m : Beside) → Quiet (mean_command g k s c m)
  unfolding mean_command mean_row Quiet show_all show ends_page
  command_quiet (Valued k v) s c m = choice Quiet (is_negative (use_of k) v) (λ d p. refl) (gate_quiet (order k (used_value (use_of k) v)) c m (λ d. refl))
  command_quiet (Method v) s c m = choice Quiet (is_negative whole v) (λ d p. refl) (choice Quiet (leb (whole_part v) 3) (λ d p. refl) (λ d p. refl))
  command_quiet (Print v) s c m = choice Quiet (is_negative whole v) (λ d p. refl) (gate_quiet (print s) c m (λ d. refl))
  command_quiet (Row v) s c m = choice Quiet (is_negative whole v) (λ d p. refl) (λ d p. refl)
  command_quiet Unknown s c m = λ d p. refl

  -- an item that hands no page over, whatever the state
  Still : Reading → Type 0
  Still r = (c : Core) (m : Beside) → Quiet (mean g r.item c m)

  payload_still : (f h l : ℕ) (v : Value) (q : Sequence) (s : List ℕ) → Still (payload f h l v q s)
  unfolding payload Still mean Quiet show_all
  payload_still f h l v q s =
      choice Still (has_payload f h l)
      (choice Still (leb (count v) (length s)) (λ c m. command_quiet (chosen f h l v) (take (count v) s) c m) (λ c m d p. refl))
      (λ c m. command_quiet (chosen f h l v) [] c m)

  letter_still : (f h : ℕ) (v : Value) (s : List ℕ) → Still (letter f h v s)
  unfolding letter Still mean Quiet show_all
  letter_still f h v [] = λ c m d p. refl
  letter_still f h v (b ∷ s) =
      choice Still (within 64 94 b) (payload_still f h b v Closed s)
      (choice Still (within 96 126 b && ltb 0 h) (payload_still f h (b - 32) v (Open f h) s) (λ c m d p. refl))

  open_still : (f h : ℕ) (s : List ℕ) → Still (read (Open f h) s)
  unfolding read parameter
  open_still f h s = letter_still f h (value s).value (value s).rest

  -- an item that ends a page takes a byte: it lowers what is left by two
  pub step_two : (t : State) (s p : List ℕ) (d : List ℕ) (ds : List (List ℕ)) → over t s ≡ false → (show_all g (step g t s).done.acts (world t.core p [])).handed ≡ d ∷ ds
      → left (step g t s).state.sequence (step g t s).rest + 2 ≤ left t.sequence s
  unfolding step Still Quiet
  step_two t s p d ds e h = go t.sequence s e h
    where
      go : (q : Sequence) (s : List ℕ) → (is_closed q && is_nil s) ≡ false → (show_all g (mean g (read q s).item t.core t.beside).acts (world t.core p [])).handed ≡ d ∷ ds
          → left (read q s).sequence (read q s).rest + 2 ≤ left q s
      go Closed [] e h = absurd (true≢false e)
      go Closed (b ∷ s) e h = unfold left read Under in
          choice (λ (r : Reading). left r.sequence r.rest + 2 ≤ 2 * length (b ∷ s)) (eqb b 27) (omega (arith, (escape_sane s).under)) (choice (λ (r : Reading). left r.sequence r.rest + 2 ≤ 2 * length (b ∷ s)) (is_text b) (omega arith) (omega arith))
      go (Open f k) s e h = absurd (let z : 0 ≡ suc (length ds) = ap length (sym (open_still f k s t.core t.beside t.core p) ∙ h) in omega arith)
