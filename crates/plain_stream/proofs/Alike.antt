-- The plain stream hangs on no cursor: cores that differ in it, in the stack's places, the resolution, the graphics margin or whether the page is used
-- give an item the same meaning, and differ in nothing else behind it. Assumes nothing.
use mathlib.Core.Path.{◌≡◌, refl, sym, ap, ◌∙◌}
use mathlib.Core.Bool.{Bool, true, false, cond, false≢true}
use mathlib.Core.List.{List, [], ◌∷◌}
use Prim.Native.Nat.{ℕ, ◌+◌}
use lib.Dec.{eqb}
use Rattle.common.specs.Lists.{pad}
use Rattle.common.proofs.Choices.{choice}
use Rattle.rules.specs.declared.Measure.{Measure}
use Rattle.rules.specs.declared.Value.{Value}
use Rattle.rules.specs.declared.Kind.{Kind}
use Rattle.rules.specs.declared.Kind.TheVariants.{Column, DecipointAcross, DotAcross, DecipointDown, DotDown, Line, LeftMargin, RightMargin, TopMargin, Vmi, LinesPerInch, Hmi, Termination, PushPop, Resolution, StartRaster, EndRaster, ResetRaster, SkipRows}
use Rattle.rules.specs.declared.Command.{Command}
use Rattle.rules.specs.declared.Command.TheVariants.{Valued, Method, Print, Row, Unknown}
use Rattle.rules.specs.declared.Code.{Code}
use Rattle.rules.specs.declared.Code.TheVariants.{CarriageReturn, LineFeed, FormFeed, Backspace, Tab}
use Rattle.rules.specs.declared.Escape.{Escape}
use Rattle.rules.specs.declared.Escape.TheVariants.{Reset, ClearMargins, HalfLine}
use Rattle.rules.specs.declared.Core.{Core}
use Rattle.rules.specs.declared.Beside.{Beside}
use Rattle.rules.specs.Measure.{origin, row_holds}
use Rattle.rules.specs.States.{with_used, with_seed, to_x, to_y}
use Rattle.rules.specs.Number.{whole_part}
use Rattle.rules.specs.Commands.{use_of, used_value}
use Rattle.rules.specs.Items.{Item, text, code, two, command, broken}
use Rattle.rules.specs.Effects.{pushed, popped, started_at, row_height, effect, barred}
use Rattle.rules.specs.Codes.{first_line, feeds_on_return, returns_on_feed, typed, typed_all, coded, escaped, code_byte}
use Rattle.rules.specs.Acts.{Act, type, control, escape, order, print, draw, drawn, next, next_all, beside_after, bar, gate, Meaning, mean_code, mean_two, mean_row, mean_command, mean}
use Rattle.plain_stream.specs.Staying.{stays}

-- a core without its cursor, its stack's places, its resolution, its graphics margin and whether its page is used: all that an item's meaning looks at
abbrev pub stripped : Core → Core
stripped c = record { at = origin; layout = c.layout; raster = record { resolution = 75; started = c.raster.started; margin = 0 }; used = false; depth = c.depth; stack = []; seed = c.seed }

-- cores that are alike but for that
abbrev pub Alike : Core → Core → Type 0
Alike c d = stripped c ≡ stripped d

-- ---- what an item means
module _ (g : Measure) where
  barred_same : (k : Kind) (v : Value) (c : Core) → barred g k v c ≡ barred g k v (stripped c)
  unfolding barred
  barred_same Column v c = refl
  barred_same DecipointAcross v c = refl
  barred_same DotAcross v c = refl
  barred_same DecipointDown v c = refl
  barred_same DotDown v c = refl
  barred_same Line v c = refl
  barred_same LeftMargin v c = refl
  barred_same RightMargin v c = refl
  barred_same TopMargin v c = refl
  barred_same Vmi v c = refl
  barred_same LinesPerInch v c = refl
  barred_same Hmi v c = refl
  barred_same Termination v c = refl
  barred_same PushPop v c = refl
  barred_same Resolution v c = refl
  barred_same StartRaster v c = refl
  barred_same EndRaster v c = refl
  barred_same ResetRaster v c = refl
  barred_same SkipRows v c = refl

  -- the seed row that a row is decoded with
  seed_same : (c : Core) (t : Bool) → (cond t c (started_at 0 c)).seed ≡ (cond t (stripped c) (started_at 0 (stripped c))).seed
  unfolding started_at
  seed_same c true = refl
  seed_same c false = refl

  command_same : (k : Command) (p : List ℕ) (c : Core) (m : Beside) → mean_command g k p c m ≡ mean_command g k p (stripped c) m
  unfolding mean_command mean_row gate bar
  command_same (Valued k v) p c m = rw (barred_same k (used_value (use_of k) v) c)
  command_same (Method v) p c m = refl
  command_same (Print v) p c m = refl
  command_same (Row v) p c m = rw (seed_same c c.raster.started)
  command_same Unknown p c m = refl

  mean_same : (i : Item) (c : Core) (m : Beside) → mean g i c m ≡ mean g i (stripped c) m
  unfolding mean mean_code mean_two gate bar
  mean_same (text b) c m = refl
  mean_same (code b) c m = refl
  mean_same (two b) c m = refl
  mean_same (command k p) c m = command_same k p c m
  mean_same (broken f) c m = refl

  -- an item means the same in cores that are alike
  pub mean_alike : (i : Item) (c d : Core) (m : Beside) → Alike c d → mean g i c m ≡ mean g i d m
  mean_alike i c d m h = mean_same i c m ∙ ap (λ (b : Core). mean g i b m) h ∙ sym (mean_same i d m)

-- ---- what an act does
module _ (g : Measure) where
  -- text and codes move the cursor, and FF leaves an unused page
  typed_all_strips : (p : List ℕ) (c : Core) → stripped (typed_all g p c) ≡ stripped c
  unfolding typed_all typed
  typed_all_strips [] c = refl
  typed_all_strips (b ∷ p) c = typed_all_strips p (typed g b c)

  coded_strips : (k : Code) (c : Core) → stripped (coded g k c) ≡ stripped c
  unfolding coded
  coded_strips CarriageReturn c = choice (λ (d : Core). stripped d ≡ stripped c) (feeds_on_return c) refl refl
  coded_strips LineFeed c = choice (λ (d : Core). stripped d ≡ stripped c) (returns_on_feed c) refl refl
  coded_strips FormFeed c = choice (λ (d : Core). stripped (with_used false (first_line g d)) ≡ stripped c) (returns_on_feed c) refl refl
  coded_strips Backspace c = refl
  coded_strips Tab c = choice (λ (d : Core). stripped d ≡ stripped c) (eqb c.layout.hmi 0) refl refl

  effect_strips : (k : Kind) (v : Value) (c : Core) → stripped (effect g k v c) ≡ stripped (effect g k v (stripped c))
  unfolding effect pushed popped started_at
  effect_strips Column v c = refl
  effect_strips DecipointAcross v c = refl
  effect_strips DotAcross v c = refl
  effect_strips DecipointDown v c = refl
  effect_strips DotDown v c = refl
  effect_strips Line v c = refl
  effect_strips LeftMargin v c = refl
  effect_strips RightMargin v c = refl
  effect_strips TopMargin v c = refl
  effect_strips Vmi v c = refl
  effect_strips LinesPerInch v c = refl
  effect_strips Hmi v c = refl
  effect_strips Termination v c = refl
  effect_strips PushPop v c = go (eqb (whole_part v) 0)
    where
      go : (t : Bool) → stripped (cond t (pushed c) (popped c)) ≡ stripped (cond t (pushed (stripped c)) (popped (stripped c)))
      go true = refl
      go false = refl
  effect_strips Resolution v c = refl
  effect_strips StartRaster v c = refl
  effect_strips EndRaster v c = refl
  effect_strips ResetRaster v c = refl
  effect_strips SkipRows v c = refl

  drawn_strips : (row : List ℕ) (c : Core) → stripped (drawn g row c) ≡ stripped (drawn g row (stripped c))
  unfolding drawn started_at
  drawn_strips row c = go c.raster.started
    where
      row_behind : Core → Core
      row_behind b = with_used true (with_seed (pad row_holds row) (to_y g (b.at.y + row_height b) (to_x g b.raster.margin b)))

      go : (t : Bool) → stripped (row_behind (cond t c (started_at 0 c))) ≡ stripped (row_behind (cond t (stripped c) (started_at 0 (stripped c))))
      go true = refl
      go false = refl

  escaped_strips : (k : Escape) (c : Core) → stripped (escaped g k c) ≡ stripped (escaped g k (stripped c))
  unfolding escaped
  escaped_strips Reset c = refl
  escaped_strips ClearMargins c = refl
  escaped_strips HalfLine c = refl

  next_strips : (a : Act) (c : Core) → stripped (next g a c) ≡ stripped (next g a (stripped c))
  unfolding next typed
  next_strips (type b) c = refl
  next_strips (control k) c = coded_strips k c ∙ sym (coded_strips k (stripped c))
  next_strips (escape k) c = escaped_strips k c
  next_strips (order k v) c = effect_strips k v c
  next_strips (print p) c = typed_all_strips p c ∙ sym (typed_all_strips p (stripped c))
  next_strips (draw row) c = drawn_strips row c

  -- cores that are alike are alike behind the same acts
  pub next_alike : (l : List Act) (c d : Core) → Alike c d → Alike (next_all g l c) (next_all g l d)
  unfolding next_all
  next_alike [] c d h = h
  next_alike (a ∷ l) c d h = next_alike l (next g a c) (next g a d) (next_strips a c ∙ ap (λ (b : Core). stripped (next g a b)) h ∙ sym (next_strips a d))

-- ---- items that change nothing that an item's meaning looks at
module _ (g : Measure) (c : Core) (m : Beside) where
  -- a meaning that leaves the core alike, and the row method as it was
  abbrev Staying : Meaning → Type 0
  Staying o = (stripped (next_all g o.acts c) ≡ stripped c) × (o.beside ≡ m)

  code_stays : (k : Code) → Staying (gate g (control k) c m)
  unfolding gate bar beside_after next next_all
  code_stays k = (coded_strips g k c, refl)

  -- that of such an item does
  pub item_stays : (i : Item) → stays i ≡ true → Staying (mean g i c m)
  unfolding mean mean_code mean_command gate bar beside_after next next_all typed
  item_stays (text b) e = (refl, refl)
  item_stays (code b) e =
      choice Staying (eqb b (code_byte CarriageReturn)) (code_stays CarriageReturn)
      (choice Staying (eqb b (code_byte LineFeed)) (code_stays LineFeed)
      (choice Staying (eqb b (code_byte FormFeed)) (code_stays FormFeed)
      (choice Staying (eqb b (code_byte Backspace)) (code_stays Backspace)
      (choice Staying (eqb b (code_byte Tab)) (code_stays Tab) (refl, refl)))))
  item_stays (two b) e = absurd (false≢true e)
  item_stays (command (Valued k v) p) e = absurd (false≢true e)
  item_stays (command (Method v) p) e = absurd (false≢true e)
  item_stays (command (Print v) p) e = absurd (false≢true e)
  item_stays (command (Row v) p) e = absurd (false≢true e)
  item_stays (command Unknown p) e = (refl, refl)
  item_stays (broken f) e = (refl, refl)
