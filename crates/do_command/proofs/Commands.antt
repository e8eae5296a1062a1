-- What commands without a row do to pen, stack and seed row. Assumes nothing.
use Prim.{tt}
use mathlib.Core.Path.{◌≡◌, refl, sym, ap, ◌∙◌}
use mathlib.Core.Bool.{Bool, true, false, cond}
use mathlib.Core.List.{List}
use Prim.Native.Nat.{ℕ, ◌+◌, ◌-◌, ◌≤◌, ◌<◌}
use native.Mathlib.Omega.{arith}
use borrow.Author.Tests.{lt-leb, le-leb}
use Rattle.std.specs.Prelude.{Result, Ok, Err}
use Rattle.rules.specs.declared.Measure.{Measure}
use Rattle.rules.specs.declared.Value.{Value}
use Rattle.rules.specs.declared.Kind.{Kind}
use Rattle.rules.specs.declared.Command.TheVariants.{Valued, Method, Print}
use Rattle.rules.specs.declared.Finding.{Finding}
use Rattle.rules.specs.declared.Finding.TheVariants.{Nothing, NotAllowed}
use Rattle.rules.specs.declared.Spot.{Spot}
use Rattle.rules.specs.declared.Raster.{Raster}
use Rattle.rules.specs.declared.Core.{Core}
use Rattle.rules.specs.declared.Beside.{Beside}
use Rattle.rules.specs.Findings.{is_clean}
use Rattle.rules.specs.States.{beside_of}
use Rattle.rules.specs.Number.{whole_part}
use Rattle.rules.specs.Commands.{whole, use_of, used_value, is_negative}
use Rattle.rules.specs.Effects.{effect, barred, pushed, popped}
use Rattle.rules.specs.Codes.{typed_all}
use Rattle.rules.specs.Acts.{order, print, show_all, next, next_all, shown, ends_page, beside_after, bar, gate, mean_command}
use Rattle.do_deed.specs.Acted.{acted_of, acted, page_after, ActedFor}
use Rattle.rules.specs.declared.Layout.{Layout}
use Rattle.do_text.specs.declared.Typed.{Typed}
use Rattle.do_text.specs.Cursor.{TypedAll}
use Rattle.do_change.specs.declared.Change.{Change}
use Rattle.do_change.specs.declared.Change.TheVariants.{To, Laid, Drawn, Fresh}
use Rattle.do_change.specs.declared.Change.TheVariants as change
use Rattle.do_change.specs.Changed.{bare, change_of, made, method_by, found_by, Placed, Goes}
use Rattle.do_change.proofs.Changing.{change_goes}
use Rattle.state_pen.specs.declared.Pen.{Pen}
use Rattle.state_pen.specs.Pens.{core_of}
use Rattle.do_deed.specs.declared.Deed.{Deed}
use Rattle.do_deed.specs.declared.Stacking.TheVariants.{Kept, Pushed, Popped}
use Rattle.do_deed.specs.Deeds.{deed_of, DeedFor}
use Rattle.do_command.specs.Made.{MadeBy}
use Rattle.do_deed.proofs.Acts.{one_act, gate_done}
use Rattle.do_deed.proofs.Penned.{nothing, pen_with}

module _ (g : Measure) where
  -- a command with a value
  valued_done : (k : Kind) (v u : Value) (c d : Core) (m n : Beside) (f : Finding) (t : Bool) → t ≡ is_negative (use_of k) v → t ≡ false → u ≡ used_value (use_of k) v → f ≡ barred g k u c → d ≡ cond (is_clean (barred g k u c)) (effect g k u c) c
      → ((w : Value) → n ≡ cond (is_clean f) (beside_after (order k w) m) m) → (p : List ℕ) → ActedFor g (mean_command g (Valued k v) p c m) c (acted_of d n f false)
  unfolding mean_command bar next ends_page shown
  valued_done k v u c d m n f t o e x h y z p q = rw (← o, e, ← x) (gate_done g (order k u) c d m n f h y (z u ∙ ap (λ (b : Finding). cond (is_clean b) (beside_after (order k u) m) m) h) refl (λ l. refl) q)

  -- &p#X
  print_done : (v : Value) (p : List ℕ) (c d : Core) (m : Beside) (t : Bool) → t ≡ is_negative whole v → t ≡ false → d ≡ typed_all g p c → ActedFor g (mean_command g (Print v) p c m) c (acted_of d m Nothing false)
  unfolding mean_command gate bar beside_after next shown ends_page
  print_done v p c d m t f e h q = rw (← f, e, h) (one_act g (print p) Nothing m c q)

module _ (v : Value) (c : Core) (m : Beside) (t : Bool) (o : t ≡ is_negative whole v) where
  -- *b#M: one of 0 to 3
  method_done : (n : ℕ) → t ≡ false → n ≡ whole_part v → n ≤ 3 → (g : Measure) (p : List ℕ) → ActedFor g (mean_command g (Method v) p c m) c (acted_of c (beside_of n) Nothing false)
  unfolding mean_command acted page_after next_all show_all
  method_done n e h l g p q = rw (← o, e, ← h, le-leb n 3 l) (record { given = refl; page = refl })

module _ (g : Measure) (p : Pen) (m : Beside) where
  -- a negative value: finding 4
  pub negative_deed : (k : Kind) (v : Value) (r : Deed) (t : Bool) → t ≡ is_negative (use_of k) v → t ≡ true → r ≡ deed_of p m NotAllowed false Kept → (b s : List ℕ) → DeedFor g (λ (c : Core). mean_command g (Valued k v) s c m) p b r b
  unfolding mean_command
  negative_deed k v r t e f h b s = nothing g p m (λ (c : Core). mean_command g (Valued k v) s c m) NotAllowed r (λ c. rw (← e, f)) h b

  -- a command with a value, which makes its change
  pub valued_deed : (k : Kind) (v u : Value) (x d : Result Change Finding) (b : List ℕ) (r : Deed) (b' : List ℕ) (t : Bool) → t ≡ is_negative (use_of k) v → t ≡ false → u ≡ used_value (use_of k) v → p.depth ≤ 20 → x ≡ change_of g k u p.at p.layout p.raster p.depth → x ≡ d → MadeBy d p m b r b'
      → (s : List ℕ) → DeedFor g (λ (c : Core). mean_command g (Valued k v) s c m) p b r b'
  valued_deed k v u x d b r b' t o e w n h i y s page = record {
    acted = λ l.
        let c = core_of p l b in
        let z : Goes g k u d c = rw (sym i ∙ h) (change_goes g k u c n) in
        let a : made d c ≡ cond (is_clean (barred g k u c)) (effect g k u c) c = rw z.bar (sym z.there) in
        rw (y.whole l) (valued_done g k v u c (made d c) m (method_by d m) (found_by d) t o e w (sym z.bar) a (λ v. sym (z.aside v m)) s page);
    placed = y.placed;
  }

  -- &p#X
  pub print_barred : (v : Value) (s : List ℕ) (r : Deed) (t : Bool) → t ≡ is_negative whole v → t ≡ true → r ≡ deed_of p m NotAllowed false Kept → (b : List ℕ) → DeedFor g (λ (c : Core). mean_command g (Print v) s c m) p b r b
  unfolding mean_command
  print_barred v s r t e f h = nothing g p m (λ (c : Core). mean_command g (Print v) s c m) NotAllowed r (λ c. rw (← e, f)) h

  pub print_deed : (v : Value) (s : List ℕ) (x : Typed) (r : Deed) (t : Bool) → t ≡ is_negative whole v → t ≡ false → TypedAll g s p.at p.layout p.used x → r ≡ deed_of (pen_with x.at p.layout p.raster x.used p.depth) m Nothing false Kept
      → (b : List ℕ) → DeedFor g (λ (c : Core). mean_command g (Print v) s c m) p b r b
  print_deed v s x r t e f i h b page = rw h (record { acted = λ l. print_done g v s (core_of p l b) (core_of (pen_with x.at p.layout p.raster x.used p.depth) l b) m t e f (i (core_of p l b) refl refl refl) page; placed = tt })

module _ (v : Value) (p : Pen) (m : Beside) (t : Bool) (o : t ≡ is_negative whole v) where
  -- *b#M with a negative value
  pub method_barred : (r : Deed) → t ≡ true → r ≡ deed_of p m NotAllowed false Kept → (g : Measure) (s b : List ℕ) → DeedFor g (λ (c : Core). mean_command g (Method v) s c m) p b r b
  unfolding mean_command
  method_barred r e h g s = nothing g p m (λ (c : Core). mean_command g (Method v) s c m) NotAllowed r (λ c. rw (← o, e)) h

  -- a method that there is not
  pub method_none : (n : ℕ) (r : Deed) → t ≡ false → n ≡ whole_part v → 3 < n → r ≡ deed_of p m NotAllowed false Kept → (g : Measure) (s b : List ℕ) → DeedFor g (λ (c : Core). mean_command g (Method v) s c m) p b r b
  unfolding mean_command
  method_none n r e f k h g s = nothing g p m (λ (c : Core). mean_command g (Method v) s c m) NotAllowed r (λ c. rw (← o, e, ← f, lt-leb n 3 k)) h

  -- one of 0 to 3
  pub method_deed : (n : ℕ) (r : Deed) → t ≡ false → n ≡ whole_part v → n ≤ 3 → r ≡ deed_of p (beside_of n) Nothing false Kept → (g : Measure) (s b : List ℕ) → DeedFor g (λ (c : Core). mean_command g (Method v) s c m) p b r b
  method_deed n r e f k h g s b page = rw h (record { acted = λ l. method_done v (core_of p l b) m t o n e f k g s page; placed = tt })

-- the stack has the place that a change writes
pub change_placed : (g : Measure) (k : Kind) (u : Value) (at : Spot) (l : Layout) (q : Raster) (n : ℕ) (x d : Result Change Finding) → n ≤ 20 → x ≡ change_of g k u at l q n → x ≡ d → Placed d n
change_placed g k u at l q n x d b h i = rw (sym i ∙ h) (change_goes g k u (bare at l q n) b).placed

-- ---- a change made
module _ (p : Pen) (m : Beside) (d : Change) where
  pub made_pushed : (b : List ℕ) (r : Deed) → d ≡ change.Pushed → Placed (Ok d) p.depth → r ≡ deed_of (pen_with p.at p.layout p.raster p.used (p.depth + 1)) m Nothing false Pushed → MadeBy (Ok d) p m b r b
  unfolding pushed
  made_pushed b r e k h = let z : p.depth < 20 = rw e at k in rw (e, h) (record { whole = λ l. refl; placed = (z, refl, refl) })

  pub made_popped : (b : List ℕ) (r : Deed) → d ≡ change.Popped → Placed (Ok d) p.depth → r ≡ deed_of (pen_with p.at p.layout p.raster p.used (p.depth - 1)) m Nothing false Popped → MadeBy (Ok d) p m b r b
  unfolding popped
  made_popped b r e k h =
      let z : (0 < p.depth) × (p.depth ≤ 20) = rw e at k in
      let i = z.0 in
      let j = z.1 in
      rw (e, h) (record { whole = λ l. refl; placed = (omega arith, refl, refl, refl) })

-- a command that is barred
pub made_barred : (p : Pen) (m : Beside) (f : Finding) (b : List ℕ) (r : Deed) → r ≡ deed_of p m f false Kept → MadeBy (Err f) p m b r b
made_barred p m f b r h = rw h (record { whole = λ l. refl; placed = tt })
