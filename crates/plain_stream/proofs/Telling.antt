-- A stream written plain, item by item. Assumes nothing.
use mathlib.Core.Path.{◌≡◌, refl, sym, ap, ◌∙◌}
use mathlib.Core.Bool.{Bool, true, false, cond}
use mathlib.Core.List.{List, [], ◌∷◌, ◌++◌, append-nil, append_assoc}
use Prim.Native.Nat.{ℕ, zero, suc, ◌+◌, ◌*◌, ◌-◌, ◌≤◌, ◌<◌}
use native.Mathlib.Omega.{arith}
use native.Mathlib.Nat.{add-zero}
use lib.Dec.{ltb}
use lib.ListN.{length, length-append, take, drop, get_or, set}
use lib.Seq.{length-sets}
use borrow.Author.Tests.{ltb-true, lt-ltb, le-ltb}
use Rattle.common.proofs.Choices.{choice}
use Rattle.common.proofs.Places.{cut}
use Rattle.common.proofs.Stores.{sets_append}
use Rattle.rules.specs.declared.Measure.{Measure}
use Rattle.rules.specs.declared.Sequence.{Sequence}
use Rattle.rules.specs.declared.Sequence.TheVariants.{Closed}
use Rattle.rules.specs.declared.Finding.{Finding}
use Rattle.rules.specs.declared.Core.{Core}
use Rattle.rules.specs.declared.Beside.{Beside}
use Rattle.rules.specs.declared.State.{State}
use Rattle.rules.specs.Sound.{all_zero, sequence_sound}
use Rattle.rules.specs.Measure.{longest_stream, stack_holds, row_holds}
use Rattle.rules.specs.States.{state_of, afresh}
use Rattle.rules.specs.Items.{is_text, read}
use Rattle.rules.specs.Items as rule
use Rattle.rules.specs.Acts.{Act, Meaning, next_all, mean, step, over}
use Rattle.rules.specs.Run.{trace, enough, whole_stream, acts_of, acts}
use Rattle.rules.specs.Plain.{put, put_all, plain}
use Rattle.read_item.specs.declared.ReadItem.{ReadItem}
use Rattle.read_item.specs.declared.Item.TheVariants as found
use Rattle.read_item.specs.Items.{item_in, ItemAt}
use Rattle.read_item.proofs.Places.{read_back}
use Rattle.state_pen.specs.declared.Pen.{Pen}
use Rattle.state_pen.specs.Pens.{pen_of, core_of}
use Rattle.do_deed.specs.declared.Deed.{Deed}
use Rattle.do_deed.specs.Acted.{Acted, acted, page_after, ActedOn}
use Rattle.do_deed.specs.Deeds.{whole_of, DeedOn}
use Rattle.run_items.specs.Turns.{text_next, ItemDone}
use Rattle.run_items.proofs.Turns.{item_done, over_not, text_told, text_at}
use Rattle.theorems.specs.Facts.{Fits, Shaped, SoundState}
use Rattle.theorems.proofs.Reading.{left}
use Rattle.theorems.proofs.Lengths.{fresh_shaped}
use Rattle.theorems.proofs.Soundness.{fresh_sound}
use Rattle.theorems.proofs.Streams.{step_shaped, step_left}
use Rattle.theorems.proofs.Sound.{step_sound}
use Rattle.theorems.proofs.Pages.{step_single}
use Rattle.plain_stream.proofs.Alike.{stripped, Alike, mean_alike, next_alike, item_stays}
use Rattle.plain_stream.specs.Staying.{stays}
use Rattle.plain_stream.specs.Runs.{text_run}
use Rattle.plain_stream.specs.Walked.{walked_from, walked}
use Rattle.plain_stream.proofs.Runs.{run_here}
use Rattle.common.specs.Stores.{Puts}
use Rattle.plain_item.specs.Plain.{PutsShort, plain_item}
use Rattle.plain_short.proofs.Bytes.{puts_none, puts_both}
use Rattle.plain_item.proofs.Meaning.{put_behind, item_tells}

-- ---- what a walk writes
-- nothing once it is beyond the most that are wanted
walked_none : (most n : ℕ) (l : List Act) → most < n → walked_from most n l ≡ []
unfolding walked_from
walked_none most n [] h = refl
walked_none most n (a ∷ l) h = rw (lt-ltb most n h)

-- the bytes of an item, which has one act or none, and what comes behind it
walked_item : (most n : ℕ) (k : List Act) (w : List ℕ) → n ≤ most → length k ≤ 1 → ((s : List ℕ) → put_all k s ≡ w ++ s) → (l : List Act) → walked_from most n (k ++ l) ≡ w ++ walked_from most (n + length w) l
unfolding walked_from put_all
walked_item most n [] w i h e l = let z : w ≡ [] = sym (e [] ∙ append-nil w) in rw (z, add-zero n)
walked_item most n (a ∷ []) w i h e l = let z : put a [] ≡ w = e [] ∙ append-nil w in rw (le-ltb most n i, z)
walked_item most n (a ∷ b ∷ k) w i h e l = absurd (omega arith)

-- all of it where that is wanted
walked_all : (most n : ℕ) (l : List Act) → n + length (walked_from most n l) ≤ most → walked_from most n l ≡ put_all l []
unfolding walked_from put_all
walked_all most n [] h = refl
walked_all most n (a ∷ l) h = go (ltb most n) (walked_from most (n + length (put a [])) l) refl (λ k. walked_all most (n + length (put a [])) l k) h
  where
    go : (t : Bool) (more : List ℕ) → ltb most n ≡ t → ((n + length (put a [])) + length more ≤ most → more ≡ put_all l []) → n + length (cond t [] (put a [] ++ more)) ≤ most → cond t [] (put a [] ++ more) ≡ put a (put_all l [])
    go true more e f k = absurd (omega (arith, ltb-true most n e))
    go false more e f k = ap (λ (s : List ℕ). put a [] ++ s) (f (omega (arith, length-append (put a []) more))) ∙ sym (put_behind a (put_all l []))

-- and no more than all of it
walked_few : (most n : ℕ) (l : List Act) → length (walked_from most n l) ≤ length (put_all l [])
unfolding walked_from put_all
walked_few most n [] = omega arith
walked_few most n (a ∷ l) =
    choice (λ (w : List ℕ). length w ≤ length (put a (put_all l []))) (ltb most n) (omega arith)
    (omega (arith, walked_few most (n + length (put a [])) l, length-append (put a []) (walked_from most (n + length (put a [])) l), ap length (put_behind a (put_all l [])), length-append (put a []) (put_all l [])))

module _ (g : Measure) (most : ℕ) (s room after : List ℕ) (r : ℕ) (h : Puts room 0 (walked g most s) after r) where
  -- what is written is the plain stream where it is no more than is wanted
  pub walked_plain : r ≤ most → Puts room 0 (plain g s) after r
  unfolding walked plain
  walked_plain l = let n = h.next in rw (walked_all most 0 (acts g s) (omega arith)) at h

  -- else the plain stream, too, is more than is wanted
  pub walked_beyond : most < r → most < length (plain g s)
  unfolding walked plain
  walked_beyond l = omega (arith, h.next, walked_few most 0 (acts g s))

-- ---- a stream under way
module _ (g : Measure) (t : State) (s : List ℕ) where
  -- what is left tells nothing more at the end
  trace_over : (n : ℕ) → over t s ≡ true → (trace g n t s).items ≡ []
  unfolding trace
  trace_over zero e = refl
  trace_over (suc n) e = rw e

  -- and before it the item's acts, and then the rest
  trace_more : (n : ℕ) → 0 < n → over t s ≡ false → acts_of (trace g n t s).items ≡ (step g t s).done.acts ++ acts_of (trace g (n - 1) (step g t s).state (step g t s).rest).items
  unfolding trace acts_of
  trace_more zero p e = absurd (omega arith)
  trace_more (suc n) p e = let z : suc n - 1 ≡ n = omega arith in rw (e, z)

-- so much of what a walk writes is written, and what is left of the stream tells the rest
pub record Telling (g : Measure) (most : ℕ) (s before : List ℕ) (t : State) (at : ℕ) (room : List ℕ) (end : ℕ) : Type 0 where
  pub written : List ℕ
  pub fuel : ℕ
  pub all : walked g most s ≡ written ++ walked_from most end (acts_of (trace g fuel t (drop at s)).items)
  pub fuelled : left t.sequence (drop at s) ≤ fuel
  pub puts : Puts before 0 written room end
  pub few : end + 32791 * left t.sequence (drop at s) ≤ 32791 * (2 * length s + 1)
  pub inside : at ≤ length s
  pub shaped : Shaped t.core
  pub sound : SoundState g t

-- before the first item
telling_first : (g : Measure) (most : ℕ) (s room : List ℕ) (t : State) → Fits g → t ≡ afresh g → Telling g most s room t 0 room 0
unfolding walked acts whole_stream left afresh sequence_sound
telling_first g most s room t f e = let z : left (afresh g).sequence (drop 0 s) ≡ 2 * length s = refl in rw e (record {
  written = [];
  fuel = enough s;
  all = refl;
  fuelled = omega arith;
  puts = puts_none room 0;
  few = omega arith;
  inside = omega arith;
  shaped = fresh_shaped g;
  sound = record { core = fresh_sound g f; method = omega arith; sequence = refl };
})

-- no bytes are none
pub no_bytes : (l : List ℕ) → length l ≡ 0 → l ≡ []
no_bytes [] e = refl
no_bytes (b ∷ l) e = absurd (omega arith)

-- the room keeps its length
pub telling_long : (g : Measure) (most : ℕ) (s before : List ℕ) (t : State) (at : ℕ) (room : List ℕ) (end : ℕ) → Telling g most s before t at room end → length room ≡ length before
telling_long g most s before t at room end h = ap length h.puts.held ∙ length-sets before 0 h.written

module _ (g : Measure) (fit : Fits g) (most : ℕ) (s before : List ℕ) (t : State) (at : ℕ) (room : List ℕ) (end : ℕ) (h : Telling g most s before t at room end) where
  -- the place written at is small
  pub telling_small : length s ≤ longest_stream → end ≤ 1099511627775
  telling_small l = let f = h.few in omega arith

  -- it ends where more is written than is wanted
  pub telling_beyond : most < end → Puts before 0 (walked g most s) room end
  telling_beyond l = rw (h.all, walked_none most end (acts_of (trace g h.fuel t (drop at s)).items) l, append-nil h.written) h.puts

  -- and at the end of the stream
  pub telling_over : (x : Bool) → x ≡ over t (drop at s) → x ≡ true → Puts before 0 (walked g most s) room end
  unfolding acts_of walked_from
  telling_over x e f = rw (h.all, trace_over g t (drop at s) h.fuel (sym e ∙ f), append-nil h.written) h.puts

  module _ (x : Bool) (e : x ≡ over t (drop at s)) (f : x ≡ false) (r : ReadItem) (a : Acted) (p after : List ℕ) (i : ItemAt s at t.sequence r)
      (d : ActedOn g (mean g (item_in s r.item) t.core t.beside) t.core p a after) where
    not_over : over t (drop at s) ≡ false
    not_over = sym e ∙ f

    done : ItemDone g t p s at (record { state = state_of a.core a.beside r.sequence; next = r.next; finding = a.finding; ended = a.ended }) after
    done = item_done g t p s at a after r h.inside i d

    -- the bytes of an item are those of its acts
    abbrev bytes : List ℕ
    bytes = plain_item (item_in s r.item) a.finding (take g.wide a.core.seed)

    item_acts : (l : List ℕ) → put_all (step g t (drop at s)).done.acts l ≡ bytes ++ l
    unfolding step acted
    item_acts l =
        let z : item_in s r.item ≡ (read t.sequence (drop at s)).item = ap (λ (y : ReadItem). item_in s y.item) i.is ∙ read_back s at t.sequence in
        rw (← z, d.given) (item_tells g t.core t.beside l (item_in s r.item) fit.wide h.shaped)

    -- the seed row keeps its length
    telling_seed : length a.core.seed ≡ 600
    telling_seed =
        let m : a.core ≡ (step g t (drop at s)).state.core = ap (λ (z : State). z.core) done.state in
        rw m (step_shaped g fit.wide t (drop at s) h.shaped not_over).0

    -- less is left
    telling_less : left r.sequence (drop r.next s) < left t.sequence (drop at s)
    telling_less =
        let m : r.sequence ≡ (step g t (drop at s)).state.sequence = ap (λ (z : State). z.sequence) done.state in
        rw (m, done.left) (step_left g t (drop at s) not_over)

    -- behind an item: it was drawn on a page of no bytes, which lie before the room
    telling_more : end ≤ most → (none room' : List ℕ) (end' : ℕ) → length none ≡ 0 → PutsShort (none ++ room) end bytes room' end' → Telling g most s before (state_of a.core a.beside r.sequence) r.next room' end'
    telling_more v none room' end' z y =
        let q : PutsShort room end bytes room' end' = rw (no_bytes none z) at y in
        let l = step_left g t (drop at s) not_over in
        let k = h.fuelled in
        let m = h.few in
        let rest = acts_of (trace g (h.fuel - 1) (step g t (drop at s)).state (step g t (drop at s)).rest).items in
        let o = walked_item most end (step g t (drop at s)).done.acts bytes v (step_single g t (drop at s)) item_acts rest in
        let u : walked g most s ≡ (h.written ++ bytes) ++ walked_from most end' rest =
        h.all ∙ rw (trace_more g t (drop at s) h.fuel (omega arith) not_over, o, q.puts.next) (sym (append_assoc h.written bytes (walked_from most (end + length bytes) rest))) in
        rw done.state (record {
          written = h.written ++ bytes;
          fuel = h.fuel - 1;
          all = rw done.left u;
          fuelled = rw done.left (omega arith);
          puts = puts_both h.written bytes h.puts q.puts;
          few = rw done.left (omega (arith, q.small));
          inside = done.inside;
          shaped = step_shaped g fit.wide t (drop at s) h.shaped not_over;
          sound = step_sound g fit t (drop at s) not_over h.shaped h.sound;
        })

-- a walk is under way, in a state that is alike to what the loop keeps: the plain stream hangs on neither the cursor nor the stack's places
pub record Walking (g : Measure) (most : ℕ) (s before : List ℕ) (n : Pen) (seed : List ℕ) (m : Beside) (q : Sequence) (at : ℕ) (room : List ℕ) (end : ℕ) : Type 0 where
  pub core : Core
  pub alike : Alike core (core_of n [] seed)
  pub telling : Telling g most s before (state_of core m q) at room end

-- before the first item
pub walking_first : (g : Measure) (most : ℕ) (s room : List ℕ) (t : State) (n : Pen) → Fits g → t ≡ afresh g → n ≡ pen_of t.core → Walking g most s room n t.core.seed t.beside t.sequence 0 room 0
walking_first g most s room t n f e k = record { core = t.core; alike = rw k; telling = telling_first g most s room t f e }

module _ (g : Measure) (fit : Fits g) (most : ℕ) (s before : List ℕ) (n : Pen) (seed : List ℕ) (m : Beside) (q : Sequence) (at : ℕ) (room : List ℕ) (end : ℕ)
    (h : Walking g most s before n seed m q at room end) where
  -- the depth is one that the stack holds
  pub walking_depth : n.depth ≤ stack_holds
  walking_depth = rw (ap (λ (c : Core). c.depth) h.alike) at h.telling.sound.core.depth

  seeds : h.core.seed ≡ seed
  seeds = ap (λ (c : Core). c.seed) h.alike

  -- the seed row is one of this page, and as long as it always is
  pub walking_zero : all_zero (drop g.wide seed) ≡ true
  walking_zero = rw seeds at h.telling.sound.core.seed

  pub walking_long : length seed ≡ row_holds
  walking_long = rw seeds at h.telling.shaped.0

  -- behind an item that changes nothing that an item's meaning looks at
  module _ (x : Bool) (e : x ≡ over (state_of h.core m q) (drop at s)) (f : x ≡ false) (r : ReadItem) (i : ItemAt s at q r) (k : stays (item_in s r.item) ≡ true) where
    abbrev met : Meaning
    met = mean g (item_in s r.item) h.core m

    abbrev left_by : Acted
    left_by = acted g met h.core []

    left_on : ActedOn g met h.core [] left_by (page_after g met h.core [])
    left_on = record { given = refl; page = refl }

    -- less is left
    pub stay_less : left r.sequence (drop r.next s) < left q (drop at s)
    stay_less = telling_less g fit most s before (state_of h.core m q) at room end h.telling x e f r left_by [] (page_after g met h.core []) i left_on

    pub walking_stays : end ≤ most → (room' : List ℕ) (end' : ℕ) → ((row : List ℕ) (n : Finding) → PutsShort room end (plain_item (item_in s r.item) n row) room' end') → Walking g most s before n seed m r.sequence r.next room' end'
    unfolding acted
    walking_stays v room' end' p =
        let z = item_stays g h.core m (item_in s r.item) k in
        let c : left_by.beside ≡ m = z.1 in
        record {
          core = left_by.core;
          alike = z.0 ∙ h.alike;
          telling = rw c at (telling_more g fit most s before (state_of h.core m q) at room end h.telling x e f r left_by [] (page_after g met h.core []) i left_on v [] room' end' refl (p (take g.wide left_by.core.seed) left_by.finding));
        }

  -- an item done on the parts that the loop keeps
  module _ (x : Bool) (e : x ≡ over (state_of h.core m q) (drop at s)) (f : x ≡ false) (r : ReadItem) (d : Deed) (p seed' p' : List ℕ) (i : ItemAt s at q r)
      (k : DeedOn g (λ (c : Core). mean g (item_in s r.item) c m) n seed p d seed' p') where
    abbrev here : Meaning
    here = mean g (item_in s r.item) h.core m

    -- what it does in the state that is reached
    abbrev there : Acted
    there = acted g here h.core p

    there_on : ActedOn g here h.core p there (page_after g here h.core p)
    there_on = record { given = refl; page = refl }

    -- it means the same to the loop
    means : here ≡ mean g (item_in s r.item) (core_of n [] seed) m
    means = mean_alike g (item_in s r.item) h.core (core_of n [] seed) m h.alike

    -- and the loop is left with parts that are alike
    behind : Alike there.core (whole_of n [] seed' d).core
    unfolding acted
    behind =
        ap (λ (o : Meaning). stripped (next_all g o.acts h.core)) means
        ∙ next_alike g (mean g (item_in s r.item) (core_of n [] seed) m).acts h.core (core_of n [] seed) h.alike
        ∙ sym (ap (λ (a : Acted). stripped a.core) (k.acted []).given)

    seed_behind : there.core.seed ≡ seed'
    seed_behind = ap (λ (c : Core). c.seed) behind

    finding_behind : there.finding ≡ d.finding
    unfolding acted
    finding_behind = ap (λ (o : Meaning). o.finding) means ∙ sym (ap (λ (a : Acted). a.finding) (k.acted []).given)

    beside_behind : there.beside ≡ d.beside
    unfolding acted
    beside_behind = ap (λ (o : Meaning). o.beside) means ∙ sym (ap (λ (a : Acted). a.beside) (k.acted []).given)

    -- the seed row keeps its length
    pub deed_long : length seed' ≡ row_holds
    deed_long = rw seed_behind at (telling_seed g fit most s before (state_of h.core m q) at room end h.telling x e f r there p (page_after g here h.core p) i there_on)

    -- it holds a row
    pub deed_seed : g.wide ≤ length seed'
    deed_seed = let n = deed_long in let w = fit.wide in omega arith

    -- less is left
    pub deed_less : left r.sequence (drop r.next s) < left q (drop at s)
    deed_less = telling_less g fit most s before (state_of h.core m q) at room end h.telling x e f r there p (page_after g here h.core p) i there_on

    -- behind it
    pub walking_deed : end ≤ most → (none room' : List ℕ) (end' : ℕ) → length none ≡ 0 → PutsShort (none ++ room) end (plain_item (item_in s r.item) d.finding (take g.wide seed')) room' end'
        → Walking g most s before d.pen seed' d.beside r.sequence r.next room' end'
    walking_deed v none room' end' y w = record {
      core = there.core;
      alike = behind;
      telling = rw (← beside_behind) (telling_more g fit most s before (state_of h.core m q) at room end h.telling x e f r there p (page_after g here h.core p) i there_on v none room' end' y (rw (← finding_behind, ← seed_behind) at w));
    }

-- ---- a run of text
-- one byte of it
one_text : (b : ℕ) (room : List ℕ) (end : ℕ) (row : List ℕ) (n : Finding) → PutsShort room end (plain_item (rule.text b) n row) (set room end b) (end + 1)
unfolding plain_item
one_text b room end row n = record { puts = record { next = refl; held = refl }; small = omega arith }

module _ (g : Measure) (fit : Fits g) (most : ℕ) (s before : List ℕ) (n : Pen) (seed : List ℕ) (m : Beside) where
  -- behind k bytes of it: no more than are wanted, and one
  walking_run : (k at : ℕ) (room : List ℕ) (end : ℕ) → Walking g most s before n seed m Closed at room end → k ≤ text_run (drop at s) → end + k ≤ most + 1
      → (room' : List ℕ) (end' : ℕ) → Puts room end (take k (drop at s)) room' end' → Walking g most s before n seed m Closed (at + k) room' end'
  walking_run zero at room end h l v room' end' p = let z : end' ≡ end = omega (arith, p.next) in rw (add-zero at, p.held, z) h
  walking_run (suc k) at room end h l v room' end' p =
      let t = run_here s at k (omega arith) in
      let b = get_or s at 0 in
      let rest = take k (drop (at + 1) s) in
      let q : Puts room end (b ∷ rest) room' end' = rw (cut s at t.inside) at p in
      let d : Puts (set room end b) (end + 1) rest room' end' = record { next = omega (arith, q.next); held = q.held ∙ sym (sets_append room end (b ∷ []) rest) } in
      let h' =
      walking_stays g fit most s before n seed m Closed at room end h false (over_not s at Closed t.inside) refl (record { item = found.Text b; sequence = Closed; next = at + 1 }) (text_at s at t.inside t.text) refl (omega arith) (set room end b) (end + 1) (one_text b room end) in
      let i : at + suc k ≡ (at + 1) + k = omega arith in
      rw i (walking_run k (at + 1) (set room end b) (end + 1) h' t.more (omega arith) room' end' d)

  pub walking_text : (q : Sequence) (at : ℕ) (room : List ℕ) (end : ℕ) → Walking g most s before n seed m q at room end → (x : Bool) → x ≡ text_next s at q → x ≡ true
      → (k : ℕ) → k ≤ text_run (drop at s) → end + k ≤ most + 1 → (room' : List ℕ) (end' : ℕ) → Puts room end (take k (drop at s)) room' end' → Walking g most s before n seed m q (at + k) room' end'
  walking_text q at room end h x e f k l v room' end' p = let z = (text_told s at q x e f).closed in rw z (walking_run k at room end (rw z at h) l v room' end' p)
