-- What an item means, written: the acts of the rules come to the bytes that code writes for it. Assumes nothing.
use mathlib.Core.Path.{◌≡◌, refl, sym, ◌∙◌}
use mathlib.Core.Bool.{Bool, true, false, cond}
use mathlib.Core.List.{List, [], ◌∷◌, ◌++◌, append-nil, append_assoc}
use Prim.Native.Nat.{ℕ, ◌-◌, ◌≤◌}
use lib.Dec.{eqb, leb}
use lib.ListN.{length, take, replicate}
use lib.Seq.{take_at}
use borrow.Author.Tests.{eqb-true}
use Rattle.common.specs.Choice.{one_of}
use Rattle.common.specs.Lists.{trim}
use Rattle.common.proofs.Choices.{choice, choice_by}
use Rattle.rules.specs.declared.Measure.{Measure}
use Rattle.rules.specs.declared.Value.{Value}
use Rattle.rules.specs.declared.Kind.{Kind}
use Rattle.rules.specs.declared.Code.{Code}
use Rattle.rules.specs.declared.Code.TheVariants.{CarriageReturn, LineFeed, FormFeed, Backspace, Tab}
use Rattle.rules.specs.declared.Escape.{Escape}
use Rattle.rules.specs.declared.Escape.TheVariants.{Reset, ClearMargins, HalfLine}
use Rattle.rules.specs.declared.Command.{Command}
use Rattle.rules.specs.declared.Command.TheVariants.{Valued, Method, Print, Row, Unknown}
use Rattle.rules.specs.declared.Finding.{Finding}
use Rattle.rules.specs.declared.Finding.TheVariants.{Nothing, NotCarried, NotAllowed, EndsInside, CannotStand, StackLimit, NotNow, DamagedRow}
use Rattle.rules.specs.declared.Core.{Core}
use Rattle.rules.specs.declared.Beside.{Beside}
use Rattle.rules.specs.Measure.{row_holds}
use Rattle.rules.specs.Findings.{is_clean}
use Rattle.rules.specs.States.{beside_of}
use Rattle.rules.specs.Number.{whole_part}
use Rattle.rules.specs.Commands.{print_spelled, row_spelled, whole, use_of, used_value, is_negative}
use Rattle.rules.specs.Rows.{decoded}
use Rattle.rules.specs.Codes.{code_byte, escape_byte}
use Rattle.rules.specs.Items as rule
use Rattle.rules.specs.Acts.{Act, type, control, escape, order, print, draw, drawn, next, next_all, beside_after, bar, gate, Meaning, meaning, nothing_done, seed_now, mean_code, mean_two, mean_row, mean_command, mean}
use Rattle.rules.specs.Plain.{put, put_all}
use Rattle.theorems.specs.Facts.{Shaped}
use Rattle.theorems.proofs.Lengths.{seed_long, decoded_length}
use Rattle.plain_head.specs.Heads.{head_of}
use Rattle.plain_head.proofs.Heads.{print_append, row_append}
use Rattle.plain_command.proofs.Writing.{order_append}
use Rattle.plain_short.specs.Bytes.{carried_codes, plain_code}
use Rattle.plain_item.specs.Plain.{plain_command, plain_item}

-- a head and a payload, and what stands behind
counted_behind : (h t s x y : List ℕ) → x ≡ h ++ (t ++ s) → y ≡ h ++ (t ++ []) → x ≡ y ++ s
counted_behind h t s x y e f = e ∙ sym (rw (f, append-nil t, append_assoc h t s))

print_behind : (p s : List ℕ) → put (print p) s ≡ put (print p) [] ++ s
print_behind p s = counted_behind (head_of print_spelled (length p)) p s (put (print p) s) (put (print p) []) (print_append p s) (print_append p [])

row_behind_lem : (r s : List ℕ) → put (draw r) s ≡ put (draw r) [] ++ s
row_behind_lem r s = counted_behind (head_of row_spelled (length (trim r))) (trim r) s (put (draw r) s) (put (draw r) []) (row_append r s) (row_append r [])

-- what an act is written as, and what stands behind
pub put_behind : (a : Act) (s : List ℕ) → put a s ≡ put a [] ++ s
unfolding put
put_behind (type b) s = refl
put_behind (control k) s = refl
put_behind (escape k) s = refl
put_behind (order k v) s = order_append k v s
put_behind (print p) s = print_behind p s
put_behind (draw r) s = row_behind_lem r s

module _ (g : Measure) (c : Core) (m : Beside) (s : List ℕ) where
  -- what the acts of a meaning are written as, before s
  abbrev Tells : List ℕ → Meaning → Type 0
  Tells w o = put_all o.acts s ≡ w ++ s

  code_gate : (b : ℕ) (k : Code) → eqb b (code_byte k) ≡ true → one_of carried_codes (code_byte k) ≡ true → Tells (plain_code b) (gate g (control k) c m)
  unfolding gate bar put_all put
  code_gate b k e h = rw (eqb-true b (code_byte k) e, h)

  code_tells : (b : ℕ) → Tells (plain_code b) (mean_code g b c m)
  unfolding mean_code put_all
  code_tells b =
      choice_by (Tells (plain_code b)) (eqb b (code_byte CarriageReturn)) (λ e. code_gate b CarriageReturn e refl)
      (λ e1. choice_by (Tells (plain_code b)) (eqb b (code_byte LineFeed)) (λ e. code_gate b LineFeed e refl)
      (λ e2. choice_by (Tells (plain_code b)) (eqb b (code_byte FormFeed)) (λ e. code_gate b FormFeed e refl)
      (λ e3. choice_by (Tells (plain_code b)) (eqb b (code_byte Backspace)) (λ e. code_gate b Backspace e refl)
      (λ e4. choice_by (Tells (plain_code b)) (eqb b (code_byte Tab)) (λ e. code_gate b Tab e refl)
      (λ e5. rw (e1, e2, e3, e4, e5))))))

  -- what a meaning tells by its finding
  abbrev TellsClean : List ℕ → Meaning → Type 0
  TellsClean w o = put_all o.acts s ≡ cond (is_clean o.finding) w [] ++ s

  two_gate : (b : ℕ) (k : Escape) → eqb b (escape_byte k) ≡ true → TellsClean (27 ∷ b ∷ []) (gate g (escape k) c m)
  unfolding gate bar put_all put
  two_gate b k e = rw (eqb-true b (escape_byte k) e)

  two_tells : (b : ℕ) → TellsClean (27 ∷ b ∷ []) (mean_two g b c m)
  unfolding mean_two put_all
  two_tells b =
      choice_by (TellsClean (27 ∷ b ∷ [])) (eqb b (escape_byte Reset)) (two_gate b Reset)
      (λ e1. choice_by (TellsClean (27 ∷ b ∷ [])) (eqb b (escape_byte ClearMargins)) (two_gate b ClearMargins)
      (λ e2. choice_by (TellsClean (27 ∷ b ∷ [])) (eqb b (escape_byte HalfLine)) (two_gate b HalfLine)
      (λ e3. refl)))

  order_gate : (k : Kind) (v : Value) → TellsClean (put (order k v) []) (gate g (order k v) c m)
  unfolding gate put_all
  order_gate k v = go (bar g (order k v) c)
    where
      go : (f : Finding) → TellsClean (put (order k v) []) (cond (is_clean f) (meaning (order k v ∷ []) Nothing (beside_after (order k v) m)) (nothing_done f m))
      go Nothing = order_append k v s
      go EndsInside = refl
      go CannotStand = refl
      go NotCarried = refl
      go NotAllowed = refl
      go StackLimit = refl
      go NotNow = refl
      go DamagedRow = refl

  print_gate : (p : List ℕ) → put_all (gate g (print p) c m).acts s ≡ put (print p) [] ++ s
  unfolding gate bar put_all
  print_gate p = print_behind p s

  text_tells : (b : ℕ) → put_all (gate g (type b) c m).acts s ≡ b ∷ s
  unfolding gate bar put_all put
  text_tells b = refl

  broken_tells : put_all [] s ≡ s
  unfolding put_all
  broken_tells = refl

  -- the row that is drawn is the front of the seed row behind it
  row_back : (r : List ℕ) → length r ≡ g.wide → take g.wide (next_all g (draw r ∷ []) c).seed ≡ r
  unfolding next_all next drawn
  row_back r e = take_at r (replicate (row_holds - length r) 0) g.wide e

  -- a command
  command_tells : (k : Command) (p : List ℕ) → g.wide ≤ row_holds → Shaped c
      → put_all (mean_command g k p c m).acts s ≡ plain_command k p (mean_command g k p c m).finding (take g.wide (next_all g (mean_command g k p c m).acts c).seed) ++ s
  unfolding mean_command plain_command put_all mean_row
  command_tells (Valued k v) p w h = choice (TellsClean (put (order k (used_value (use_of k) v)) [])) (is_negative (use_of k) v) {a = nothing_done NotAllowed m} refl (order_gate k (used_value (use_of k) v))
  command_tells (Method v) p w h =
      choice (λ (o : Meaning). put_all o.acts s ≡ s) (is_negative whole v) {a = nothing_done NotAllowed m} refl
      (choice (λ (o : Meaning). put_all o.acts s ≡ s) (leb (whole_part v) 3) {a = meaning [] Nothing (beside_of (whole_part v))} {b = nothing_done NotAllowed m} refl refl)
  command_tells (Print v) p w h = go (is_negative whole v)
    where
      go : (t : Bool) → put_all (cond t (nothing_done NotAllowed m) (gate g (print p) c m)).acts s ≡ cond t [] (put (print p) []) ++ s
      go true = refl
      go false = print_gate p
  command_tells (Row v) p w h = go (is_negative whole v)
    where
      go : (t : Bool) → put_all (cond t (nothing_done NotAllowed m) (mean_row g p c m)).acts s
          ≡ cond t [] (put (draw (take g.wide (next_all g (cond t (nothing_done NotAllowed m) (mean_row g p c m)).acts c).seed)) []) ++ s
      go true = refl
      go false =
          let r = (decoded g.wide m.method (seed_now c) p).bytes in
          let l = decoded_length g.wide m.method (seed_now c) p (rw (seed_long c h) w) in
          rw (row_back r l) (row_behind_lem r s)
  command_tells Unknown p w h = refl

  -- any item
  pub item_tells : (i : rule.Item) → g.wide ≤ row_holds → Shaped c
      → put_all (mean g i c m).acts s ≡ plain_item i (mean g i c m).finding (take g.wide (next_all g (mean g i c m).acts c).seed) ++ s
  unfolding mean plain_item
  item_tells (rule.text b) w h = text_tells b
  item_tells (rule.code b) w h = code_tells b
  item_tells (rule.two b) w h = two_tells b
  item_tells (rule.command k p) w h = command_tells k p w h
  item_tells (rule.broken f) w h = broken_tells
