-- The theorems of specs/Statements.antt. Assumes nothing.
use mathlib.Core.Path.{◌≡◌, refl, sym, ap, ◌∙◌}
use mathlib.Core.Bool.{Bool, true, false, cond, not, ◌&&◌, false≢true}
use mathlib.Core.List.{List, [], ◌∷◌, ◌++◌, append_assoc}
use Prim.Native.Nat.{ℕ, ◌+◌, ◌*◌, ◌/◌, ◌%◌, ◌≤◌, ◌<◌}
use native.Mathlib.Omega.{arith}
use lib.Dec.{leb, ltb}
use lib.ListN.{length, get_or, take, drop, length-append, get_or-append}
use lib.Seq.{sets, sets-eq, length-sets, get_or-drop, drop_at}
use borrow.Author.Tests.{le-leb, leb-true, not-false}
use Rattle.common.specs.Choice.{within, flagged}
use Rattle.common.proofs.Choices.{choice, choice_by, and_true, and_false_left, and_false_right, within_bounds, one_of-bounds}
use Rattle.rules.specs.declared.Measure.{Measure}
use Rattle.rules.specs.declared.Sequence.{Sequence}
use Rattle.rules.specs.declared.Sequence.TheVariants.{Closed, Open}
use Rattle.rules.specs.declared.Refusal.TheVariants.{PageMeasure, PageBuffer, StreamLength, UnsoundState, StartPlace}
use Rattle.rules.specs.Given.{Verdict}
use Rattle.rules.specs.Given.{Carried, Refused}
use Rattle.rules.specs.declared.Core.{Core}
use Rattle.rules.specs.declared.State.{State}
use Rattle.rules.specs.Measure.{LW, LH, allowed, measure_of, page_bytes, longest_stream, origin}
use Rattle.rules.specs.States.{beside_of, state_of}
use Rattle.rules.specs.Sound.{resolutions, core_sound, sequence_sound, sound}
use Rattle.rules.specs.Run.{Outcome, run, refused, behind, answer}
use Rattle.theorems.specs.Facts.{Shaped, SoundCore}
use Rattle.theorems.proofs.Measures.{allowed_gives}
use Rattle.theorems.proofs.Runs.{run_shaped}
use Rattle.theorems.proofs.Sound.{state_facts}
use Rattle.theorems.proofs.Theorems.{calls_keep_sound}
use Rattle.state_load.specs.Kept.{u64_at, spot_at, stack_at, seed_at, layout_at, raster_at, core_at, state_takes, is_state, sequence_at, state_at, spot_bytes, stack_bytes, length_bytes, mode_bytes, depth_bytes, front_bytes, state_bytes}
use Rattle.state_load.proofs.Tables.{table_length, table_whole}
use Rattle.state_laws.proofs.Parts.{layout_is, raster_is, core_is, state_is, open_first, spot_is}
use Rattle.state_laws.specs.Statements.{StateIsReadBack, StateTakesItsBytes, NoStateIsRefused, CallsGoOn}
use Rattle.state_laws.proofs.Bytes.{four_back, two_back, flag_back, flag_small, AllFit, stack_fit, stack_length, stack_back, spot_drop}

-- a state's bytes, with a and b for its sequence and more behind them
abbrev bytes : Core → ℕ → ℕ → ℕ → List ℕ → List ℕ
bytes c m a b tail =
    spot_bytes c.at
    ++ (length_bytes c.layout c.raster
    ++ (mode_bytes c.raster.resolution c.layout.termination m
    ++ ((flagged c.raster.started ∷ flagged c.used ∷ [])
    ++ ((a ∷ b ∷ []) ++ depth_bytes c.depth))))
    ++ (stack_bytes c.stack ++ (c.seed ++ tail))

-- ---- the core
module _ (g : Measure) (wide : LW g ≤ 115200) (high : LH g ≤ 163200) (c : Core) (h : SoundCore g c) (s : Shaped c) (m a b : ℕ) (tail : List ℕ) where
  abbrev all : List ℕ
  all = bytes c m a b tail

  layout_back : c.layout ≡ layout_at all
  layout_back =
      let l = h.layout in
      let left = l.left in
      let right = l.right in
      let top = l.top in
      let hmi = l.hmi in
      let vmi = l.vmi in
      layout_is all c.layout.left c.layout.right c.layout.top c.layout.hmi c.layout.vmi c.layout.termination
      (sym (four_back c.layout.left (omega arith)))
      (sym (four_back c.layout.right (omega arith)))
      (sym (four_back c.layout.top (omega arith)))
      (sym (four_back c.layout.hmi (omega arith)))
      (sym (four_back c.layout.vmi (omega arith)))
      refl

  raster_back : c.raster ≡ raster_at all
  raster_back =
      let margin = h.margin in
      let r = (one_of-bounds 75 300 resolutions c.raster.resolution refl h.resolution).1 in
      raster_is all c.raster.resolution c.raster.started c.raster.margin
      (sym (two_back c.raster.resolution (omega arith)))
      (sym (flag_back c.raster.started))
      (sym (four_back c.raster.margin (omega arith)))

  at_back : c.at ≡ spot_at all 0
  at_back =
      let x = h.x in
      let y = h.y in
      spot_is all 0 c.at.x c.at.y (sym (four_back c.at.x (omega arith))) (sym (four_back c.at.y (omega arith)))

  depth_back : c.depth ≡ u64_at all 40
  depth_back =
      let d = h.depth in
      let low : c.depth % 4294967296 ≡ c.depth = omega arith in
      let none : c.depth / 4294967296 ≡ 0 = omega arith in
      rw (four_back (c.depth % 4294967296) (omega arith), low, none) (omega arith)

  places_back : c.stack ≡ stack_at all
  places_back = sym (table_whole 20 (λ i. spot_at all (48 + 8 * i)) c.stack origin s.1 place)
    where
      fit : AllFit c.stack
      fit = stack_fit g (omega arith) (omega arith) c.depth c.stack h.stacked h.free

      place : (i : ℕ) → i < length c.stack → spot_at all (48 + 8 * i) ≡ get_or c.stack i origin
      place i k = spot_drop all 48 (8 * i) ∙ stack_back c.stack (c.seed ++ tail) i fit k

  seed_back : c.seed ≡ seed_at all
  seed_back = sym (table_whole 600 (λ i. get_or all (208 + i) 0) c.seed 0 s.0 byte)
    where
      from : drop 208 all ≡ c.seed ++ tail
      from = drop_at (stack_bytes c.stack) (c.seed ++ tail) 160 (stack_length c.stack ∙ ap (λ (n : ℕ). 8 * n) s.1)

      byte : (i : ℕ) → i < length c.seed → get_or all (208 + i) 0 ≡ get_or c.seed i 0
      byte i k = sym (get_or-drop 208 all i 0) ∙ ap (λ (l : List ℕ). get_or l i 0) from ∙ get_or-append c.seed tail 0 i k

  core_back : c ≡ core_at all
  core_back = core_is all c.at c.layout c.raster c.used c.depth c.stack c.seed
      at_back layout_back raster_back (sym (flag_back c.used)) depth_back places_back seed_back

  -- bytes that were written may be a state
  method_back : state_takes ≤ length all → m ≡ cond (is_state all) (get_or all 35 0) 255
  method_back k = rw (le-leb state_takes (length all) k, flag_small c.raster.started, flag_small c.used)

  -- and are read as it, where its sequence is read as it was
  state_back : (q : Sequence) → state_takes ≤ length all → q ≡ sequence_at all → state_at all ≡ state_of c (beside_of m) q
  state_back q k e = sym (state_is all c m q core_back (method_back k) e)

-- ---- the state
module _ (g : Measure) (wide : LW g ≤ 115200) (high : LH g ≤ 163200) (c : Core) (h : SoundCore g c) (s : Shaped c) (m : ℕ) (tail : List ℕ) where
  -- a sound sequence has a first byte that is not 0
  kept_back : (q : Sequence) → sequence_sound q ≡ true → state_takes ≤ length (state_bytes (state_of c (beside_of m) q) ++ tail)
      → state_at (state_bytes (state_of c (beside_of m) q) ++ tail) ≡ state_of c (beside_of m) q
  unfolding state_bytes front_bytes sequence_sound
  kept_back Closed e k =
      let j = append_assoc (stack_bytes c.stack) c.seed tail in
      rw j (state_back g wide high c h s m 0 0 tail Closed (rw j at k) refl)
  kept_back (Open f o) e k =
      let j = append_assoc (stack_bytes c.stack) c.seed tail in
      let low = (within_bounds 33 47 f (and_true (within 33 47 f) (within 96 126 o) e).0).0 in
      rw j (state_back g wide high c h s m f o tail (Open f o) (rw j at k) (open_first (bytes c m f o tail) f o refl refl (λ z. omega (arith, z, low))))

front_length : (c : Core) (m : ℕ) (q : Sequence) → length (front_bytes (state_of c (beside_of m) q)) ≡ 48
unfolding front_bytes
front_length c m Closed = refl
front_length c m (Open f o) = refl

state_length : (t : State) → Shaped t.core → length (state_bytes t) ≡ state_takes
unfolding state_bytes
state_length t s =
    let l = stack_bytes t.core.stack in
    length-append (front_bytes t) (l ++ t.core.seed)
    ∙ rw (front_length t.core t.beside.method t.sequence, length-append l t.core.seed, stack_length t.core.stack, s.0, s.1)

pub state_takes_its_bytes : StateTakesItsBytes
state_takes_its_bytes t s = record { size = size; behind = behind }
  where
    size : length (state_bytes t) ≡ state_takes
    size = state_length t s

    behind : (b : List ℕ) → state_takes ≤ length b → sets b 0 (state_bytes t) ≡ state_bytes t ++ drop state_takes b
    behind b h = sets-eq (state_bytes t) b 0 (omega (arith, size)) ∙ rw size

pub state_is_read_back : StateIsReadBack
state_is_read_back W H t b a e s h =
    let w = allowed_gives W H a in
    let f = state_facts (measure_of W H) t e in
    let k : state_takes ≤ length (sets b 0 (state_bytes t)) = rw (length-sets b 0 (state_bytes t)) h in
    let z = (state_takes_its_bytes t s).behind b h in
    rw z (kept_back (measure_of W H) w.widest w.highest t.core f.core s t.beside.method (drop state_takes b) t.sequence f.sequence (rw z at k))

pub no_state-is_refused : NoStateIsRefused
unfolding sound state_at
no_state-is_refused g b e =
    and_false_left _ (sequence_sound (sequence_at b)) (and_false_right (core_sound g (core_at b)) (leb (cond (is_state b) (get_or b 35 0) 255) 3) (rw e))

-- ---- calls
-- whatever the bytes are, the lists that they are read as have the lengths of their arrays
read_shaped : (b : List ℕ) → Shaped (state_at b).core
unfolding state_at
read_shaped b = (table_length 600 (λ i. get_or b (208 + i) 0), table_length 20 (λ i. spot_at b (48 + 8 * i)))

-- bytes that are read as a sound state are enough
sound_enough : (g : Measure) (b : List ℕ) → sound g (state_at b) ≡ true → state_takes ≤ length b
sound_enough g b e = go (is_state b) refl
  where
    go : (x : Bool) → is_state b ≡ x → state_takes ≤ length b
    go true f =
        let p = and_true (leb state_takes (length b) && leb (get_or b 36 0) 1) (leb (get_or b 37 0) 1) f in
        leb-true state_takes (length b) (and_true (leb state_takes (length b)) (leb (get_or b 36 0) 1) p.0).0
    go false f = absurd (false≢true (sym (no_state-is_refused g b f) ∙ e))

abbrev is_carried : Verdict → Bool
is_carried Carried = true
is_carried (Refused why) = false

no : {A : Type 0} → false ≡ true → A
no z = absurd (false≢true z)

module _ (W H : ℕ) (page stream : List ℕ) (t : State) (at n : ℕ) where
  abbrev g : Measure
  g = measure_of W H

  abbrev p : List ℕ
  p = take (page_bytes g) page

  abbrev Told : Outcome → Type 0
  Told o = is_carried o.ran.verdict ≡ true → (allowed W H ≡ true) × (sound g t ≡ true)

  abbrev Kept : Outcome → Type 0
  Kept o = Shaped o.ran.state.core

  -- a call that is carried out has an allowed page and a sound state
  carried_sound : is_carried (answer W H page stream t at n).ran.verdict ≡ true → (allowed W H ≡ true) × (sound (measure_of W H) t ≡ true)
  unfolding answer
  carried_sound =
      choice_by Told (not (allowed W H)) {a = refused PageMeasure t at page} (λ e. no)
      (λ a. choice Told (ltb (length page) (page_bytes g)) {a = refused PageBuffer t at page} no
      (choice Told (ltb longest_stream (length stream)) {a = refused StreamLength t at page} no
      (choice_by Told (not (sound g t)) {a = refused UnsoundState t at page} (λ e. no)
      (λ s. choice Told (ltb (length stream) at) {a = refused StartPlace t at page} {b = behind g page (run g n t at p stream)} no
      (λ z. (not-false (allowed W H) a, not-false (sound g t) s))))))

  -- a call keeps the lengths of a state's lists
  answer_shaped : allowed W H ≡ true → Shaped t.core → Shaped (answer W H page stream t at n).ran.state.core
  unfolding answer
  answer_shaped a h =
      choice Kept (not (allowed W H)) {a = refused PageMeasure t at page} h
      (choice Kept (ltb (length page) (page_bytes g)) {a = refused PageBuffer t at page} h
      (choice Kept (ltb longest_stream (length stream)) {a = refused StreamLength t at page} h
      (choice Kept (not (sound g t)) {a = refused UnsoundState t at page} h
      (choice Kept (ltb (length stream) at) {a = refused StartPlace t at page} {b = behind g page (run g n t at p stream)} h
      (run_shaped g (allowed_gives W H a).fits.wide n t at p stream h)))))

pub calls_go_on : CallsGoOn
calls_go_on W H page stream b at n e =
    let t = state_at b in
    let c = carried_sound W H page stream t at n (ap is_carried e) in
    state_is_read_back W H (answer W H page stream t at n).ran.state b c.0
    (calls_keep_sound W H page stream t at n c.0 (read_shaped b) c.1)
    (answer_shaped W H page stream t at n c.0 (read_shaped b))
    (sound_enough (measure_of W H) b c.1)
