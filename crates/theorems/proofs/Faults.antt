-- What an item with a finding does: nothing, or for a damaged row a row of zeros. Assumes nothing.
use mathlib.Core.Path.{◌≡◌, refl, ap, sym, ◌∙◌}
use Prim.Native.Nat.{ℕ, ◌-◌}
use native.Mathlib.Omega.{arith}
use mathlib.Core.List.{List, [], ◌∷◌}
use mathlib.Core.Bool.{Bool, true, false, cond, not, ◌&&◌, false≢true, true≢false}
use lib.ListN.{length, replicate}
use lib.Dec.{eqb, leb, ltb}
use Rattle.common.specs.Choice.{within, one_of}
use Rattle.common.specs.Lists.{is_nil}
use Rattle.common.proofs.Choices.{choice}
use Rattle.rules.specs.declared.Measure.{Measure}
use Rattle.rules.specs.declared.Value.{Value}
use Rattle.rules.specs.declared.Kind.{Kind}
use Rattle.rules.specs.declared.Kind.TheVariants.{Column, DecipointAcross, DotAcross, DecipointDown, DotDown, Line, LeftMargin, RightMargin, TopMargin, Vmi, LinesPerInch, Hmi, Termination, PushPop, Resolution, StartRaster, EndRaster, ResetRaster, SkipRows}
use Rattle.rules.specs.declared.Command.{Command}
use Rattle.rules.specs.declared.Command.TheVariants.{Valued, Method, Print, Row, Unknown}
use Rattle.rules.specs.declared.Code.TheVariants.{CarriageReturn, LineFeed, FormFeed, Backspace, Tab}
use Rattle.rules.specs.declared.Escape.TheVariants.{Reset, ClearMargins, HalfLine}
use Rattle.rules.specs.declared.Sequence.{Sequence}
use Rattle.rules.specs.declared.Sequence.TheVariants.{Closed, Open}
use Rattle.rules.specs.declared.Finding.{Finding}
use Rattle.rules.specs.declared.Finding.TheVariants.{Nothing, EndsInside, CannotStand, NotCarried, NotAllowed, StackLimit, NotNow, DamagedRow}
use Rattle.rules.specs.declared.Core.{Core}
use Rattle.rules.specs.declared.Beside.{Beside}
use Rattle.rules.specs.declared.State.{State}
use Rattle.rules.specs.Measure.{LH, stack_holds}
use Rattle.rules.specs.Sound.{resolutions}
use Rattle.rules.specs.States.{state_of}
use Rattle.rules.specs.Findings.{is_clean}
use Rattle.rules.specs.Number.{size_of, whole_part, value, count}
use Rattle.rules.specs.Commands.{whole, use_of, used_value, is_negative}
use Rattle.rules.specs.Codes.{code_byte, escape_byte}
use Rattle.rules.specs.Effects.{new_left, new_right, new_top, line_rates, barred}
use Rattle.rules.specs.Items.{Item, text, code, two, command, broken, Reading, has_payload, payload, letter, parameter, group, behind_escape, is_text, read}
use Rattle.rules.specs.Rows.{decoded}
use Rattle.rules.specs.Acts.{Act, type, control, escape, order, print, draw, next_all, bar, gate, seed_now, Meaning, nothing_done, mean_code, mean_two, mean_row, mean_command, mean, done_of, Step, step_of, step}
use Rattle.theorems.specs.Statements.{is_faulty, NothingDone, RowOfZeros, FindingsTable}
use Rattle.theorems.proofs.Lengths.{damaged_zeros}
use Rattle.theorems.proofs.Suffixes.{step_rest, step_took}

-- ---- a broken piece: finding 1 leaves nothing, finding 2 the byte that can't stand and what is behind it; both close the sequence
unfoldable Leaving : Finding → Sequence → List ℕ → Type 0
Leaving Nothing q s = ⊥
Leaving EndsInside q s = (q ≡ Closed) × (s ≡ [])
Leaving CannotStand q s = (q ≡ Closed) × (is_nil s ≡ false)
Leaving NotCarried q s = ⊥
Leaving NotAllowed q s = ⊥
Leaving StackLimit q s = ⊥
Leaving NotNow q s = ⊥
Leaving DamagedRow q s = ⊥

unfoldable Breaks : Item → Sequence → List ℕ → Type 0
Breaks (text b) q s = Unit {0}
Breaks (code b) q s = Unit {0}
Breaks (two b) q s = Unit {0}
Breaks (command k p) q s = Unit {0}
Breaks (broken f) q s = Leaving f q s

abbrev Rightly : Reading → Type 0
Rightly r = Breaks r.item r.sequence r.rest

payload_rightly : (f g l : ℕ) (v : Value) (q : Sequence) (s : List ℕ) → Rightly (payload f g l v q s)
unfolding payload Breaks Leaving
payload_rightly f g l v q s = choice Rightly (has_payload f g l) (choice Rightly (leb (count v) (length s)) tt (refl, refl)) tt

letter_rightly : (f g : ℕ) (v : Value) (s : List ℕ) → Rightly (letter f g v s)
unfolding letter Breaks Leaving
letter_rightly f g v [] = (refl, refl)
letter_rightly f g v (b ∷ s) =
    choice Rightly (within 64 94 b) (payload_rightly f g b v Closed s)
    (choice Rightly (within 96 126 b && ltb 0 g) (payload_rightly f g (b - 32) v (Open f g) s) (refl, refl))

parameter_rightly : (f g : ℕ) (s : List ℕ) → Rightly (parameter f g s)
unfolding parameter
parameter_rightly f g s = letter_rightly f g (value s).value (value s).rest

group_rightly : (f : ℕ) (s : List ℕ) → Rightly (group f s)
unfolding group Breaks Leaving
group_rightly f [] = (refl, refl)
group_rightly f (b ∷ s) = choice Rightly (within 96 126 b) (parameter_rightly f b s) (parameter_rightly f 0 (b ∷ s))

escape_rightly : (s : List ℕ) → Rightly (behind_escape s)
unfolding behind_escape Breaks Leaving
escape_rightly [] = (refl, refl)
escape_rightly (b ∷ s) = choice Rightly (within 48 126 b) tt (choice Rightly (within 33 47 b) (group_rightly b s) (refl, refl))

read_rightly : (q : Sequence) (s : List ℕ) → Rightly (read q s)
unfolding read Breaks Leaving
read_rightly Closed [] = (refl, refl)
read_rightly Closed (b ∷ s) = choice Rightly (eqb b 27) (escape_rightly s) (choice Rightly (is_text b) tt tt)
read_rightly (Open f g) s = parameter_rightly f g s

-- ---- an item that was read has none of findings 1 and 2; with 3 to 6 nothing is done, with 7 a row of zeros
-- 1 or 2
abbrev is_broken : Finding → Bool
is_broken Nothing = false
is_broken EndsInside = true
is_broken CannotStand = true
is_broken NotCarried = false
is_broken NotAllowed = false
is_broken StackLimit = false
is_broken NotNow = false
is_broken DamagedRow = false

-- 7
abbrev is_damaged : Finding → Bool
is_damaged Nothing = false
is_damaged EndsInside = false
is_damaged CannotStand = false
is_damaged NotCarried = false
is_damaged NotAllowed = false
is_damaged StackLimit = false
is_damaged NotNow = false
is_damaged DamagedRow = true

record Told (w : ℕ) (m : Beside) (o : Meaning) : Type 0 where
  whole_item : is_broken o.finding ≡ false
  nothing : is_faulty o.finding ≡ true → (o.acts ≡ []) × (o.beside ≡ m)
  zeros : o.finding ≡ DamagedRow → (o.acts ≡ draw (replicate w 0) ∷ []) × (o.beside ≡ m)

-- what bars an act is none of 1, 2 and 7
abbrev Bars : Finding → Type 0
Bars f = (is_broken f ≡ false) × (is_damaged f ≡ false)

module _ (g : Measure) where
  barred_bars : (k : Kind) (v : Value) (c : Core) → Bars (barred g k v c)
  unfolding barred
  barred_bars Column v c = (refl, refl)
  barred_bars DecipointAcross v c = (refl, refl)
  barred_bars DotAcross v c = (refl, refl)
  barred_bars DecipointDown v c = (refl, refl)
  barred_bars DotDown v c = (refl, refl)
  barred_bars Line v c = (refl, refl)
  barred_bars LeftMargin v c = choice Bars (ltb (new_left v c) c.layout.right) (refl, refl) (refl, refl)
  barred_bars RightMargin v c = choice Bars (ltb c.layout.left (new_right g v c)) (refl, refl) (refl, refl)
  barred_bars TopMargin v c = choice Bars (ltb 0 c.layout.vmi && leb (new_top v c) (LH g)) (refl, refl) (refl, refl)
  barred_bars Vmi v c = choice Bars (leb (size_of v) 3360000) (refl, refl) (refl, refl)
  barred_bars LinesPerInch v c = choice Bars (one_of line_rates (whole_part v)) (refl, refl) (refl, refl)
  barred_bars Hmi v c = (refl, refl)
  barred_bars Termination v c = choice Bars (leb (whole_part v) 3) (refl, refl) (refl, refl)
  barred_bars PushPop v c =
      choice Bars (eqb (whole_part v) 0) (choice Bars (ltb c.depth stack_holds) (refl, refl) (refl, refl))
      (choice Bars (eqb (whole_part v) 1) (choice Bars (ltb 0 c.depth) (refl, refl) (refl, refl)) (refl, refl))
  barred_bars Resolution v c = choice Bars (one_of resolutions (whole_part v)) (choice Bars (not c.raster.started) (refl, refl) (refl, refl)) (refl, refl)
  barred_bars StartRaster v c = choice Bars (leb (whole_part v) 1) (choice Bars (not c.raster.started) (refl, refl) (refl, refl)) (refl, refl)
  barred_bars EndRaster v c = (refl, refl)
  barred_bars ResetRaster v c = (refl, refl)
  barred_bars SkipRows v c = choice Bars c.raster.started (refl, refl) (refl, refl)

  bar_bars : (a : Act) (c : Core) → Bars (bar g a c)
  unfolding bar
  bar_bars (type b) c = (refl, refl)
  bar_bars (control k) c = (refl, refl)
  bar_bars (escape k) c = (refl, refl)
  bar_bars (order k v) c = barred_bars k v c
  bar_bars (print p) c = (refl, refl)
  bar_bars (draw row) c = (refl, refl)

  -- nothing is done, and no row is damaged
  nothing_told : (f : Finding) (m : Beside) → Bars f → Told g.wide m (nothing_done f m)
  nothing_told f m h = record { whole_item = h.0; nothing = λ e. (refl, refl); zeros = λ e. absurd (false≢true (sym h.1 ∙ ap is_damaged e)) }

  -- no finding
  clean_told : (m : Beside) (o : Meaning) → o.finding ≡ Nothing → Told g.wide m o
  clean_told m o e = record {
    whole_item = ap is_broken e;
    nothing = λ h. absurd (false≢true (sym (ap is_faulty e) ∙ h));
    zeros = λ h. absurd (true≢false (sym (ap is_clean e) ∙ ap is_clean h));
  }

  gate_told : (a : Act) (c : Core) (m : Beside) → Told g.wide m (gate g a c m)
  unfolding gate
  gate_told a c m = choice (Told g.wide m) (is_clean (bar g a c)) (clean_told m _ refl) (nothing_told (bar g a c) m (bar_bars a c))

  code_told : (b : ℕ) (c : Core) (m : Beside) → Told g.wide m (mean_code g b c m)
  unfolding mean_code
  code_told b c m =
      choice (Told g.wide m) (eqb b (code_byte CarriageReturn)) (gate_told (control CarriageReturn) c m)
      (choice (Told g.wide m) (eqb b (code_byte LineFeed)) (gate_told (control LineFeed) c m)
      (choice (Told g.wide m) (eqb b (code_byte FormFeed)) (gate_told (control FormFeed) c m)
      (choice (Told g.wide m) (eqb b (code_byte Backspace)) (gate_told (control Backspace) c m)
      (choice (Told g.wide m) (eqb b (code_byte Tab)) (gate_told (control Tab) c m) (nothing_told Nothing m (refl, refl))))))

  two_told : (b : ℕ) (c : Core) (m : Beside) → Told g.wide m (mean_two g b c m)
  unfolding mean_two
  two_told b c m =
      choice (Told g.wide m) (eqb b (escape_byte Reset)) (gate_told (escape Reset) c m)
      (choice (Told g.wide m) (eqb b (escape_byte ClearMargins)) (gate_told (escape ClearMargins) c m)
      (choice (Told g.wide m) (eqb b (escape_byte HalfLine)) (gate_told (escape HalfLine) c m) (nothing_told NotCarried m (refl, refl))))

  row_told : (p : List ℕ) (c : Core) (m : Beside) → Told g.wide m (mean_row g p c m)
  unfolding mean_row
  row_told p c m = go (decoded g.wide m.method (seed_now c) p).intact refl
    where
      go : (t : Bool) → (decoded g.wide m.method (seed_now c) p).intact ≡ t
          → Told g.wide m (record { acts = draw (decoded g.wide m.method (seed_now c) p).bytes ∷ []; finding = cond t Nothing DamagedRow; beside = m })
      go true e = clean_told m _ refl
      go false e = record {
        whole_item = refl;
        nothing = λ h. absurd (false≢true h);
        zeros = λ h. (ap (λ l. draw l ∷ []) (damaged_zeros g.wide m.method (seed_now c) p e), refl);
      }

  command_told : (k : Command) (p : List ℕ) (c : Core) (m : Beside) → Told g.wide m (mean_command g k p c m)
  unfolding mean_command
  command_told (Valued k v) p c m =
      choice (Told g.wide m) (is_negative (use_of k) v) (nothing_told NotAllowed m (refl, refl)) (gate_told (order k (used_value (use_of k) v)) c m)
  command_told (Method v) p c m =
      choice (Told g.wide m) (is_negative whole v) (nothing_told NotAllowed m (refl, refl))
      (choice (Told g.wide m) (leb (whole_part v) 3) (clean_told m _ refl) (nothing_told NotAllowed m (refl, refl)))
  command_told (Print v) p c m = choice (Told g.wide m) (is_negative whole v) (nothing_told NotAllowed m (refl, refl)) (gate_told (print p) c m)
  command_told (Row v) p c m = choice (Told g.wide m) (is_negative whole v) (nothing_told NotAllowed m (refl, refl)) (row_told p c m)
  command_told Unknown p c m = nothing_told NotCarried m (refl, refl)

-- ---- the table of findings, of an item read and what is behind it
module _ (g : Measure) (t : State) where
  -- an item done, whatever bytes it took
  abbrev done_by : ℕ → Item → Sequence → List ℕ → Step
  done_by n i q rest =
      let o = mean g i t.core t.beside in
      step_of (done_of n o.finding o.acts) (state_of (next_all g o.acts t.core) o.beside q) rest

  record Table (d : Step) : Type 0 where
    nothing : is_faulty d.done.finding ≡ true → NothingDone t d
    ends_inside_lem : d.done.finding ≡ EndsInside → (d.state.sequence ≡ Closed) × (d.rest ≡ [])
    cannot_stand_lem : d.done.finding ≡ CannotStand → (d.state.sequence ≡ Closed) × (is_nil d.rest ≡ false)
    damaged : d.done.finding ≡ DamagedRow → RowOfZeros g t d

  told_table : (n : ℕ) (i : Item) (q : Sequence) (rest : List ℕ) → Told g.wide t.beside (mean g i t.core t.beside) → Table (done_by n i q rest)
  unfolding next_all
  told_table n i q rest h = record {
    nothing = λ e. let k = h.nothing e in record { acts = k.0; core = ap (λ l. next_all g l t.core) k.0; method = k.1 };
    ends_inside_lem = λ e. absurd (false≢true (sym h.whole_item ∙ ap is_broken e));
    cannot_stand_lem = λ e. absurd (false≢true (sym h.whole_item ∙ ap is_broken e));
    damaged = λ e. let k = h.zeros e in record { acts = k.0; core = ap (λ l. next_all g l t.core) k.0; method = k.1 };
  }

  broken_table : (n : ℕ) (f : Finding) (q : Sequence) (rest : List ℕ) → Leaving f q rest → Table (done_by n (broken f) q rest)
  unfolding next_all mean Leaving
  broken_table n Nothing q rest h = absurd h
  broken_table n EndsInside q rest h = record {
    nothing = λ e. record { acts = refl; core = refl; method = refl };
    ends_inside_lem = λ e. h;
    cannot_stand_lem = λ e. absurd (let z : ◌≡◌ {A = ℕ} 0 1 = cc in omega arith);
    damaged = λ e. absurd (false≢true (ap is_damaged e));
  }
  broken_table n CannotStand q rest h = record {
    nothing = λ e. record { acts = refl; core = refl; method = refl };
    ends_inside_lem = λ e. absurd (let z : ◌≡◌ {A = ℕ} 0 1 = cc in omega arith);
    cannot_stand_lem = λ e. h;
    damaged = λ e. absurd (false≢true (ap is_damaged e));
  }
  broken_table n NotCarried q rest h = absurd h
  broken_table n NotAllowed q rest h = absurd h
  broken_table n StackLimit q rest h = absurd h
  broken_table n NotNow q rest h = absurd h
  broken_table n DamagedRow q rest h = absurd h

  item_table : (n : ℕ) (i : Item) (q : Sequence) (rest : List ℕ) → Breaks i q rest → Table (done_by n i q rest)
  unfolding mean Breaks
  item_table n (text b) q rest h = told_table n (text b) q rest (gate_told g (type b) t.core t.beside)
  item_table n (code b) q rest h = told_table n (code b) q rest (code_told g b t.core t.beside)
  item_table n (two b) q rest h = told_table n (two b) q rest (two_told g b t.core t.beside)
  item_table n (command k p) q rest h = told_table n (command k p) q rest (command_told g k p t.core t.beside)
  item_table n (broken f) q rest h = broken_table n f q rest h

  done_table : (s : List ℕ) → Table (step g t s)
  unfolding step
  done_table s =
      let r = read t.sequence s in
      item_table (length s - length r.rest) r.item r.sequence r.rest (read_rightly t.sequence s)

  -- the table holds of every item
  pub step_table : (s : List ℕ) → FindingsTable g t s (step g t s)
  step_table s =
      let h = done_table s in
      record {
        nothing = h.nothing;
        ends_inside_lem = h.ends_inside_lem;
        cannot_stand_lem = h.cannot_stand_lem;
        sequence = unfold step in refl;
        damaged = h.damaged;
        taken = step_took g t s;
        left = step_rest g t s;
      }
