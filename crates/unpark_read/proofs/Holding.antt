-- What is held of a text's numbers is judged as the numbers are. Assumes nothing.
use mathlib.Core.Path.{◌≡◌, refl, sym, ap, ◌∙◌}
use mathlib.Core.Bool.{Bool, true, false, cond}
use mathlib.Core.List.{List, [], ◌∷◌, ◌++◌, map}
use Prim.Native.Nat.{ℕ, zero, suc, ◌-◌, ◌≤◌}
use native.Mathlib.Nat.{zero-add}
use native.Mathlib.Omega.{arith}
use lib.Dec.{leb}
use lib.ListN.{length, take, drop, replicate, length-replicate}
use lib.Seq.{sets, sets-eq, take-append_seam}
use borrow.Author.Tests.{leb-true}
use Rattle.common.specs.Lists.{pad}
use Rattle.common.proofs.Choices.{and_true, one_of-bounds}
use Rattle.rules.specs.declared.Measure.{Measure}
use Rattle.rules.specs.declared.Spot.{Spot}
use Rattle.rules.specs.declared.State.{State}
use Rattle.rules.specs.Measure.{allowed, LW, LH, stack_holds, row_holds, origin}
use Rattle.rules.specs.Sound.{in_page, all_in_page, resolutions, sound}
use Rattle.rules.specs.States.{with_stack, with_seed, state_of}
use Rattle.rules.specs.Forms.{Parked, parked_of, measured}
use Rattle.rules.specs.Park.{stack_with, depth_of, row_bytes, parked_sound, given, not_sound, answered}
use Rattle.theorems.specs.Facts.{SoundState}
use Rattle.theorems.proofs.Measures.{allowed_gives}
use Rattle.theorems.proofs.Sound.{state_facts}
use Rattle.unpark_read.specs.Held.{low16, low8, held, judged_parked, held_parked}
use Rattle.unpark_lines.specs.Answers.{low, low_spot}

-- ---- a list put at the front of an array that was blank
drop_same : {A : Type 0} (j k : ℕ) (a : A) → drop j (replicate k a) ≡ replicate (k - j) a
drop_same zero k a = let e : k - 0 ≡ k = omega arith in rw e
drop_same (suc j) zero a = let e : 0 - suc j ≡ 0 = omega arith in rw e
drop_same (suc j) (suc k) a = let e : suc k - suc j ≡ k - j = omega arith in rw e (drop_same j k a)

front : {A : Type 0} (n : ℕ) (a : A) (l : List A) → length l ≤ n → sets (replicate n a) 0 l ≡ l ++ replicate (n - length l) a
front n a l h =
    let e = sets-eq l (replicate n a) 0 (rw (zero-add (length l), length-replicate n a) h) in
    rw zero-add at e ∙ ap (λ r. l ++ r) (drop_same (length l) n a)

-- ---- numbers that a sound state has are held as they are
same_held : (t : State)
    → low t.core.at.x ≡ t.core.at.x → low t.core.at.y ≡ t.core.at.y
    → low t.core.layout.left ≡ t.core.layout.left → low t.core.layout.right ≡ t.core.layout.right → low t.core.layout.top ≡ t.core.layout.top
    → low t.core.layout.hmi ≡ t.core.layout.hmi → low t.core.layout.vmi ≡ t.core.layout.vmi → low8 t.core.layout.termination ≡ t.core.layout.termination
    → low16 t.core.raster.resolution ≡ t.core.raster.resolution → low t.core.raster.margin ≡ t.core.raster.margin → low8 t.beside.method ≡ t.beside.method
    → held t ≡ t
same_held t x y l r p h v e s m k = rw (x, y, l, r, p, h, v, e, s, m, k)

module _ (g : Measure) (wide : LW g ≤ 115200) (high : LH g ≤ 163200) (t : State) where
  -- of a sound state
  sound_held : SoundState g t → held t ≡ t
  sound_held f =
      let c = f.core in let l = c.layout in
      let x = c.x in let y = c.y in let a = l.left in let b = l.right in let p = l.top in let h = l.hmi in let v = l.vmi in let e = l.termination in
      let r = (one_of-bounds 75 300 resolutions t.core.raster.resolution refl c.resolution).1 in let m = c.margin in let k = f.method in
      same_held t (omega arith) (omega arith) (omega arith) (omega arith) (omega arith) (omega arith) (omega arith) (omega arith) (omega arith) (omega arith) (omega arith)

  -- and of one that is sound as it is held
  held_sound : SoundState g (held t) → held t ≡ t
  held_sound f =
      let c = f.core in let l = c.layout in
      let x = c.x in let y = c.y in let a = l.left in let b = l.right in let p = l.top in let h = l.hmi in let v = l.vmi in let e = l.termination in
      let r = (one_of-bounds 75 300 resolutions (low16 t.core.raster.resolution) refl c.resolution).1 in let m = c.margin in let k = f.method in
      same_held t (omega arith) (omega arith) (omega arith) (omega arith) (omega arith) (omega arith) (omega arith) (omega arith) (omega arith) (omega arith) (omega arith)

  -- ---- and so are positions in the page
  spot_same : (p : Spot) → low p.x ≡ p.x → low p.y ≡ p.y → low_spot p ≡ p
  spot_same p x y = rw (x, y)

  spots_sound : (l : List Spot) → all_in_page g l ≡ true → map low_spot l ≡ l
  unfolding all_in_page
  spots_sound [] e = refl
  spots_sound (p ∷ l) e =
      let a = and_true (in_page g p) (all_in_page g l) e in
      let b = and_true (leb p.x (LW g)) (leb p.y (LH g)) a.0 in
      let x = leb-true p.x (LW g) b.0 in let y = leb-true p.y (LH g) b.1 in
      let q = spot_same p (omega arith) (omega arith) in let r = spots_sound l a.1 in
      (λ i. q i ∷ r i)

  spots_held : (l : List Spot) → all_in_page g (map low_spot l) ≡ true → map low_spot l ≡ l
  unfolding all_in_page
  spots_held [] e = refl
  spots_held (p ∷ l) e =
      let a = and_true (in_page g (low_spot p)) (all_in_page g (map low_spot l)) e in
      let b = and_true (leb (low p.x) (LW g)) (leb (low p.y) (LH g)) a.0 in
      let x = leb-true (low p.x) (LW g) b.0 in let y = leb-true (low p.y) (LH g) b.1 in
      let q = spot_same p (omega arith) (omega arith) in let r = spots_held l a.1 in
      (λ i. q i ∷ r i)

map_length : (l : List Spot) → length (map low_spot l) ≡ length l
map_length [] = refl
map_length (p ∷ l) = ap suc (map_length l)

-- ---- two that are the same if either is sound are judged the same
judged_same : (j k : Parked) → (parked_sound j ≡ true → k ≡ j) → (parked_sound k ≡ true → k ≡ j) → judged_parked k ≡ judged_parked j
unfolding judged_parked
judged_same j k h e = go (parked_sound j) (parked_sound k) refl refl
  where
    go : (a b : Bool) → parked_sound j ≡ a → parked_sound k ≡ b → answered (cond (parked_sound k) (given k) not_sound) ≡ answered (cond (parked_sound j) (given j) not_sound)
    go true b p q = ap (λ x. answered (cond (parked_sound x) (given x) not_sound)) (h p)
    go false true p q = ap (λ x. answered (cond (parked_sound x) (given x) not_sound)) (e q)
    go false false p q = rw (p, q)

-- ---- the stack and the row, in arrays
-- the same numbers, with other lists
abbrev pub relist : List Spot → List ℕ → Parked → Parked
relist stack seed j = parked_of j.W j.H (state_of (with_seed seed (with_stack (depth_of j) stack j.state.core)) j.state.beside j.state.sequence)

-- what the arrays hold
abbrev pub stack_held : List Spot → List Spot
stack_held spots = sets (replicate stack_holds origin) 0 (map low_spot spots)

abbrev pub seed_held : List ℕ → List ℕ
seed_held bytes = sets (replicate row_holds 0) 0 bytes

module _ (j : Parked) (spots : List Spot) (bytes : List ℕ) (d : length spots ≡ depth_of j) (b : length bytes ≡ row_bytes j)
    (s : j.state.core.stack ≡ stack_with spots) (e : j.state.core.seed ≡ pad row_holds bytes) where
  abbrev K : Parked
  K = held_parked (relist (stack_held spots) (seed_held bytes) j)

  stack_is : length spots ≤ stack_holds → map low_spot spots ≡ spots → stack_held spots ≡ j.state.core.stack
  stack_is h q = ap (sets (replicate stack_holds origin) 0) q ∙ front stack_holds origin spots h ∙ sym s

  seed_is : j.W ≤ 4800 → seed_held bytes ≡ j.state.core.seed
  seed_is h = front row_holds 0 bytes (omega (arith, b)) ∙ sym e

  same_lists : stack_held spots ≡ j.state.core.stack → seed_held bytes ≡ j.state.core.seed → relist (stack_held spots) (seed_held bytes) j ≡ j
  same_lists p q = (λ i. relist (p i) (q i) j)

  from_sound : parked_sound j ≡ true → K ≡ j
  unfolding parked_sound held_parked
  from_sound h =
      let a = and_true (allowed j.W j.H) (sound (measured j) j.state) h in
      let g = allowed_gives j.W j.H a.0 in
      let f = state_facts (measured j) j.state a.1 in
      let w = g.widest in let k = g.width in let n = f.core.depth in
      let t : take (depth_of j) j.state.core.stack ≡ spots = ap (λ m. take m j.state.core.stack) (sym d) ∙ ap (take (length spots)) s ∙ take-append_seam spots _ in
      let p = stack_is (omega (arith, d)) (spots_sound (measured j) g.widest g.highest j.state spots (rw t at f.core.stacked)) in
      ap held_parked (same_lists p (seed_is (omega arith)))
      ∙ ap (parked_of j.W j.H) (sound_held (measured j) g.widest g.highest j.state f)

  from_held : parked_sound K ≡ true → K ≡ j
  unfolding parked_sound held_parked
  from_held h =
      let t : State = (relist (stack_held spots) (seed_held bytes) j).state in
      let a = and_true (allowed j.W j.H) (sound (measured j) (held t)) h in
      let g = allowed_gives j.W j.H a.0 in
      let f = state_facts (measured j) (held t) a.1 in
      let w = g.widest in let k = g.width in let n = f.core.depth in
      let m : length (map low_spot spots) ≤ stack_holds = omega (arith, d, map_length spots) in
      let u : take (depth_of j) (stack_held spots) ≡ map low_spot spots =
      ap (λ i. take i (stack_held spots)) (sym d ∙ sym (map_length spots)) ∙ ap (take (length (map low_spot spots))) (front stack_holds origin (map low_spot spots) m) ∙ take-append_seam (map low_spot spots) _ in
      let p = stack_is (omega (arith, d)) (spots_held (measured j) g.widest g.highest j.state spots (rw u at f.core.stacked)) in
      ap (parked_of j.W j.H) (held_sound (measured j) g.widest g.highest t f)
      ∙ same_lists p (seed_is (omega arith))

  pub held_judged : judged_parked K ≡ judged_parked j
  held_judged = judged_same j K from_sound from_held
