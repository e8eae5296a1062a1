-- A run, item by item: what one turn of its loop does to what is left to do. Assumes nothing.
use mathlib.Core.Path.{◌≡◌, refl, sym, ap, ◌∙◌}
use mathlib.Core.Bool.{Bool, true, false, cond, not, ◌&&◌, false≢true}
use mathlib.Core.List.{List}
use Prim.Native.Nat.{ℕ, suc, ◌+◌, ◌-◌, ◌≤◌, ◌<◌}
use native.Mathlib.Nat.{sub-zero}
use native.Mathlib.Omega.{arith}
use lib.Dec.{eqb, ltb}
use lib.ListN.{length, drop, get_or}
use borrow.Author.Tests.{ltb-true, eqb-true}
use Rattle.common.specs.Lists.{is_nil}
use Rattle.common.proofs.Choices.{and_true}
use Rattle.common.proofs.Places.{cut}
use Rattle.rules.specs.declared.Measure.{Measure}
use Rattle.rules.specs.declared.Sequence.{Sequence}
use Rattle.rules.specs.declared.Sequence.TheVariants.{Closed, Open}
use Rattle.rules.specs.declared.Finding.{Finding}
use Rattle.rules.specs.declared.Finding.TheVariants.{Nothing}
use Rattle.rules.specs.Given.{Carried}
use Rattle.rules.specs.declared.Core.{Core}
use Rattle.rules.specs.declared.Beside.{Beside}
use Rattle.rules.specs.declared.State.{State}
use Rattle.rules.specs.Given.{Ran}
use Rattle.rules.specs.Findings.{is_clean}
use Rattle.rules.specs.States.{state_of}
use Rattle.rules.specs.Items as rule
use Rattle.rules.specs.Items.{is_text, reading, read}
use Rattle.rules.specs.Acts.{mean, step, is_closed, over}
use Rattle.rules.specs.Run.{Outcome, outcome, halted, page_of, place_of, spot_of, run_from}
use Rattle.rules.specs.declared.Spot.{Spot}
use Rattle.read_item.specs.declared.Item.TheVariants as found
use Rattle.read_item.specs.declared.ReadItem.{ReadItem}
use Rattle.read_item.specs.Items.{read_at, item_in, ItemAt}
use Rattle.read_item.proofs.Places.{read_left, read_back}
use Rattle.do_text.specs.Cursor.{typed_pen}
use Rattle.do_text.proofs.Typing.{typed_core}
use Rattle.state_pen.specs.declared.Pen.{Pen}
use Rattle.state_pen.specs.Pens.{pen_of, core_of}
use Rattle.do_deed.specs.declared.Deed.{Deed}
use Rattle.do_deed.specs.Acted.{Acted, acted_of, acted, page_after, ActedOn}
use Rattle.do_deed.specs.Deeds.{whole_of, pen_after, stack_by, DeedOn}
use Rattle.do_deed.proofs.Acts.{text_done}
use Rattle.rules.specs.Measure.{blank}
use Rattle.run_items.proofs.Blank.{Undrawn, page_none, blank_goes, blank_behind}
use Rattle.run_items.specs.declared.Stop.{Stop}
use Rattle.run_items.specs.Stops.{no_stop, stop_behind}
use Rattle.run_items.specs.Turns.{Taken, text_next, shown_by, ItemDone, stop_of, RunsOn}
use Rattle.theorems.specs.Facts.{Fits, Shaped, SoundState}
use Rattle.theorems.proofs.Streams.{step_shaped}
use Rattle.theorems.proofs.Sound.{step_sound}

abbrev pub taken_of : State → ℕ → Finding → Bool → Taken
taken_of t at f ended = record { state = t; next = at; finding = f; ended = ended }

module _ (g : Measure) (t : State) (p s : List ℕ) (at : ℕ) (a : Acted) (after : List ℕ) where
  -- an item that the rules read there, done as its meaning says
  done_there : (r : ReadItem) → r ≡ read_at s at t.sequence → r.next ≤ length s
      → ActedOn g (mean g (read t.sequence (drop at s)).item t.core t.beside) t.core p a after
      → ItemDone g t p s at (taken_of (state_of a.core a.beside r.sequence) r.next a.finding a.ended) after
  unfolding step acted page_after read_at
  done_there r e l h = record {
    state = rw (e, h.given);
    finding = rw h.given;
    ended = rw h.given;
    page = h.page;
    next = rw e;
    left = rw e (read_left s at t.sequence);
    inside = l;
  }

  -- the same for an item of the stream, whose payload is a part of it
  pub item_done : (r : ReadItem) → at ≤ length s → ItemAt s at t.sequence r → ActedOn g (mean g (item_in s r.item) t.core t.beside) t.core p a after
      → ItemDone g t p s at (taken_of (state_of a.core a.beside r.sequence) r.next a.finding a.ended) after
  item_done r i h k =
      let x : item_in s r.item ≡ (read t.sequence (drop at s)).item = ap (λ (z : ReadItem). item_in s z.item) h.is ∙ read_back s at t.sequence in
      let n = h.inside in
      done_there r h.is (omega arith) (rw x at k)

module _ (s : List ℕ) (at : ℕ) (q : Sequence) where
  -- before the end there is an item
  pub over_not : at < length s → false ≡ (is_closed q && is_nil (drop at s))
  over_not h = rw (cut s at h) (go (is_closed q))
    where
      go : (t : Bool) → false ≡ (t && false)
      go true = refl
      go false = refl

-- ---- the loop
-- what it gives
abbrev ran_of : State → ℕ → Stop → ℕ → Ran
ran_of t at x done = record { verdict = Carried; state = t; place = at; finding = x.finding; found = x.found; began = x.began; ended = x.ended; done = done }

-- a run is under way: `done` items are done; what is left to do leads to the outcome; the state is sound; nothing is drawn yet where the page is
-- unused, which was `first`
pub record Going (g : Measure) (s : List ℕ) (allow : ℕ) (o : Outcome) (t : State) (at done : ℕ) (first p : List ℕ) : Type 0 where
  pub left : run_from g (allow - done) done at t p (drop at s) ≡ o
  pub inside : at ≤ length s
  pub shaped : Shaped t.core
  pub sound : SoundState g t
  pub undrawn : Undrawn g first t.core.used p

module _ (g : Measure) (fit : Fits g) (s : List ℕ) (allow : ℕ) (o : Outcome) (t : State) (at done : ℕ) {first : List ℕ} (p : List ℕ) (h : Going g s allow o t at done first p) where
  -- the allowance is used up
  pub turn_full : allow ≤ done → RunsOn o (ran_of t at no_stop done) p
  unfolding run_from
  turn_full l =
      let z : allow - done ≡ 0 = omega arith in
      let e : halted t at done p ≡ o = rw z at h.left in
      record { given = ap (λ (x : Outcome). x.ran) e; lent = ap (λ (x : Outcome). x.page) e }

  module _ (l : done < allow) where
    one_more : allow - done ≡ suc (allow - (done + 1))
    one_more = omega arith

    -- there is no item to do
    pub turn_over : (x : Bool) → x ≡ over t (drop at s) → x ≡ true → RunsOn o (ran_of t at no_stop done) p
    unfolding run_from
    turn_over x e f =
        let k : halted t at done p ≡ o = rw (← e, f) at (rw one_more at h.left) in
        record { given = ap (λ (z : Outcome). z.ran) k; lent = ap (λ (z : Outcome). z.page) k }

    module _ (x : Bool) (e : x ≡ over t (drop at s)) (f : x ≡ false) (r : Taken) (after : List ℕ) (d : ItemDone g t p s at r after) where
      -- what is left to do behind it, and what the run comes to where it stops
      abbrev more : Outcome
      more = run_from g (allow - (done + 1)) (done + 1) (at + (step g t (drop at s)).done.took) (step g t (drop at s)).state (shown_by g (step g t (drop at s)) t p).page (step g t (drop at s)).rest

      abbrev stop : Outcome
      stop = outcome Carried (step g t (drop at s)).state (at + (step g t (drop at s)).done.took) (step g t (drop at s)).done.finding (place_of (step g t (drop at s)).done.finding at) (spot_of (step g t (drop at s)).done.finding t.core.at) (not (is_nil (shown_by g (step g t (drop at s)) t p).handed)) (done + 1) (page_of (shown_by g (step g t (drop at s)) t p).handed (shown_by g (step g t (drop at s)) t p).page)

      turned : cond (is_clean (step g t (drop at s)).done.finding && is_nil (shown_by g (step g t (drop at s)) t p).handed) more stop ≡ o
      unfolding run_from
      turned = rw (← e, f) at (rw one_more at h.left)

      -- the test of the code is that of the rules
      same_test : (l : List (List ℕ)) → r.ended ≡ not (is_nil l) → (is_clean (step g t (drop at s)).done.finding && is_nil l) ≡ (is_clean r.finding && not r.ended)
      same_test l z = rw (z, d.finding) (ap (λ (b : Bool). is_clean (step g t (drop at s)).done.finding && b) (twice (is_nil l)))
        where
          twice : (b : Bool) → b ≡ not (not b)
          twice true = refl
          twice false = refl

      -- an item that stops the run
      pub turn_stops : (y : Bool) → y ≡ (is_clean r.finding && not r.ended) → y ≡ false → RunsOn o (stop_of r at t.core.at (done + 1)) after
      turn_stops y j k =
          let w = shown_by g (step g t (drop at s)) t p in
          let q : (is_clean (step g t (drop at s)).done.finding && is_nil w.handed) ≡ false = same_test w.handed d.ended ∙ sym j ∙ k in
          let z : stop ≡ o = rw q at turned in
          record { given = rw (← z) (rw (d.state, d.next, d.finding, d.ended)); lent = d.page ∙ ap (λ (v : Outcome). v.page) z }

      -- what it leaves of a page that was blank, where that is unused, or was when it was ended
      pub turn_blank : cond r.ended t.core.used r.state.core.used ≡ false → first ≡ blank g → after ≡ blank g
      turn_blank = blank_behind d first h.undrawn

      -- one behind which it goes on
      pub turn_goes : (y : Bool) → y ≡ (is_clean r.finding && not r.ended) → y ≡ true → Going g s allow o r.state r.next (done + 1) first after
      turn_goes y j k =
          let w = shown_by g (step g t (drop at s)) t p in
          let q : (is_clean (step g t (drop at s)).done.finding && is_nil w.handed) ≡ true = same_test w.handed d.ended ∙ sym j ∙ k in
          let n : is_nil w.handed ≡ true = (and_true (is_clean (step g t (drop at s)).done.finding) (is_nil w.handed) q).1 in
          let z : more ≡ o = rw q at turned in
          let u : over t (drop at s) ≡ false = sym e ∙ f in
          record {
            left = rw (d.state, d.page, page_none w.handed w.page n, d.left, d.next) z;
            inside = d.inside;
            shaped = rw d.state (step_shaped g fit.wide t (drop at s) h.shaped u);
            sound = rw d.state (step_sound g fit t (drop at s) u h.shaped h.sound);
            undrawn = blank_goes d first h.undrawn n;
          }

-- a text byte is no ESC
pub text_plain : (b : ℕ) → is_text b ≡ true → eqb b 27 ≡ false
text_plain b h = go (eqb b 27) refl
  where
    go : (x : Bool) → eqb b 27 ≡ x → x ≡ false
    go true e = absurd (false≢true (rw (eqb-true b 27 e) at h))
    go false e = refl

-- what text_next tells
pub record TextThere (s : List ℕ) (at : ℕ) (q : Sequence) : Type 0 where
  pub inside : at < length s
  pub closed : q ≡ Closed
  pub text : is_text (get_or s at 0) ≡ true

pub text_told : (s : List ℕ) (at : ℕ) (q : Sequence) (x : Bool) → x ≡ text_next s at q → x ≡ true → TextThere s at q
text_told s at q x e f =
    let a = and_true (ltb at (length s) && is_closed q) (is_text (get_or s at 0)) (sym e ∙ f) in
    let b = and_true (ltb at (length s)) (is_closed q) a.0 in
    record { inside = ltb-true at (length s) b.0; closed = go q b.1; text = a.1 }
  where
    go : (r : Sequence) → is_closed r ≡ true → r ≡ Closed
    go Closed z = refl
    go (Open first group) z = absurd (false≢true z)

-- a space or a text byte, as it is read
pub text_at : (s : List ℕ) (at : ℕ) → at < length s → is_text (get_or s at 0) ≡ true → ItemAt s at Closed (record { item = found.Text (get_or s at 0); sequence = Closed; next = at + 1 })
unfolding read_at read
text_at s at l h =
    let b = get_or s at 0 in
    let k = cut s at l in
    let z = text_plain b h in
    let r : read Closed (drop at s) ≡ reading (rule.text b) Closed (drop (at + 1) s) = rw (k, z, h) in
    let n : at + (length (drop at s) - length (drop (at + 1) s)) ≡ at + 1 = rw k (omega arith) in
    record {
      is = rw r (ap (λ (i : ℕ). record { item = found.Text b; sequence = Closed; next = i }) (sym n));
      forward = omega arith;
      inside = omega arith;
      ordered = omega arith;
      ended = omega arith;
      counted = omega arith;
      low = omega arith;
    }

-- what it does to a pen: the cursor moves, the page is used or not
pub text_acts : (g : Measure) (b : ℕ) (n n' : Pen) (l : List Spot) (seed : List ℕ) (m : Beside) (p : List ℕ) → n' ≡ typed_pen g n b
    → ActedOn g (mean g (rule.text b) (core_of n l seed) m) (core_of n l seed) p (acted_of (core_of n' l seed) m Nothing false) p
text_acts g b n n' l seed m p e = text_done g b (core_of n l seed) (core_of n' l seed) m (typed_core g b n n' l seed e) p

module _ (g : Measure) (fit : Fits g) (s : List ℕ) (allow : ℕ) (o : Outcome) (n : Pen) (k : List Spot) (seed : List ℕ) (m : Beside) (q : Sequence) (at done : ℕ) {first : List ℕ} (p : List ℕ)
    (h : Going g s allow o (state_of (core_of n k seed) m q) at done first p) where
  -- a space or a text byte: the run goes on behind it
  pub turn_text : (x : Bool) (n' : Pen) → done < allow → x ≡ text_next s at q → x ≡ true → n' ≡ typed_pen g n (get_or s at 0) → Going g s allow o (state_of (core_of n' k seed) m q) (at + 1) (done + 1) first p
  turn_text x n' l e f d =
      let z = text_told s at q x e f in
      let b = get_or s at 0 in
      let i = item_done g (state_of (core_of n k seed) m Closed) p s at (acted_of (core_of n' k seed) m Nothing false) p (record { item = found.Text b; sequence = Closed; next = at + 1 }) h.inside (text_at s at z.inside z.text) (text_acts g b n n' k seed m p d) in
      go q z.closed h (over_not s at q z.inside) i
    where
      go : (r : Sequence) → r ≡ Closed → Going g s allow o (state_of (core_of n k seed) m r) at done first p → false ≡ over (state_of (core_of n k seed) m r) (drop at s)
          → ItemDone g (state_of (core_of n k seed) m Closed) p s at (taken_of (state_of (core_of n' k seed) m Closed) (at + 1) Nothing false) p → Going g s allow o (state_of (core_of n' k seed) m r) (at + 1) (done + 1) first p
      go Closed e h v i = turn_goes g fit s allow o (state_of (core_of n k seed) m Closed) at done p h l false v refl (taken_of (state_of (core_of n' k seed) m Closed) (at + 1) Nothing false) p i true refl refl
      go (Open first group) e h v i = absurd (false≢true (ap is_closed e))

-- an item done on the parts of a core: its pen n, its stack l and its seed row; behind it they are n', l' and seed'
module _ (g : Measure) (n : Pen) (l : List Spot) (seed : List ℕ) (m : Beside) (q : Sequence) (p s : List ℕ) (at : ℕ) (r : ReadItem) (d : Deed) (seed' p' : List ℕ) (i : at ≤ length s) (j : ItemAt s at q r)
    (k : DeedOn g (λ (c : Core). mean g (item_in s r.item) c m) n seed p d seed' p') (n' : Pen) (l' : List Spot) (e : n' ≡ pen_after d l) (f : l' ≡ stack_by d.stacking n d.pen.depth l) where
  abbrev behind : State
  behind = state_of (core_of n' l' seed') d.beside r.sequence

  deed_done : ItemDone g (state_of (core_of n l seed) m q) p s at (taken_of behind r.next d.finding d.ended) p'
  deed_done = rw (e, f) (item_done g (state_of (core_of n l seed) m q) p s at (whole_of n l seed' d) p' r i j (k.acted l))

  module _ (fit : Fits g) (allow : ℕ) (o : Outcome) (done : ℕ) {first : List ℕ} (h : Going g s allow o (state_of (core_of n l seed) m q) at done first p) (u : done < allow)
      (x : Bool) (v : x ≡ over (state_of (core_of n l seed) m q) (drop at s)) (w : x ≡ false) where
    -- the run goes on behind it
    pub deed_goes : (y : Bool) → y ≡ (is_clean d.finding && not d.ended) → y ≡ true → Going g s allow o behind r.next (done + 1) first p'
    deed_goes = turn_goes g fit s allow o (state_of (core_of n l seed) m q) at done p h u x v w (taken_of behind r.next d.finding d.ended) p' deed_done

    -- or stops
    pub deed_stops : (y : Bool) → y ≡ (is_clean d.finding && not d.ended) → y ≡ false → RunsOn o (ran_of behind r.next (stop_behind d at n) (done + 1)) p'
    deed_stops = turn_stops g fit s allow o (state_of (core_of n l seed) m q) at done p h u x v w (taken_of behind r.next d.finding d.ended) p' deed_done

    -- a page that was blank is so where it is unused behind the item, or was when the item ended it
    pub deed_blank : cond d.ended n.used n'.used ≡ false → first ≡ blank g → p' ≡ blank g
    deed_blank = turn_blank g fit s allow o (state_of (core_of n l seed) m q) at done p h u x v w (taken_of behind r.next d.finding d.ended) p' deed_done

-- a run that has not begun, whose state was taken apart
pub going_first : (g : Measure) (s : List ℕ) (allow place : ℕ) (t : State) (n : Pen) (p : List ℕ) → n ≡ pen_of t.core → place ≤ length s → Shaped t.core → SoundState g t
    → Going g s allow (run_from g allow 0 place t p (drop place s)) (state_of (core_of n t.core.stack t.core.seed) t.beside t.sequence) place 0 p p
going_first g s allow place t n p e i h k = rw e (record { left = rw (sub-zero allow); inside = i; shaped = h; sound = k; undrawn = λ e u. e })
