-- One deed for one item: what is to be done to the stack is told by what becomes of all stacks. Assumes nothing.
use mathlib.Core.Path.{◌≡◌, refl, sym, ap, ◌∙◌}
use mathlib.Core.List.{List, []}
use Prim.Native.Nat.{ℕ, ◌+◌, ◌<◌}
use native.Mathlib.Omega.{arith}
use lib.ListN.{length, get_or, set, replicate, length-replicate, get_or-replicate}
use lib.Seq.{get_or-set_same}
use Rattle.rules.specs.declared.Spot.{Spot}
use Rattle.rules.specs.Measure.{stack_holds, origin}
use Rattle.rules.specs.States.{at_x}
use Rattle.state_pen.specs.declared.Pen.{Pen}
use Rattle.do_deed.specs.declared.Deed.{Deed}
use Rattle.do_deed.specs.declared.Stacking.{Stacking}
use Rattle.do_deed.specs.declared.Stacking.TheVariants.{Kept, Pushed, Popped, Emptied}
use Rattle.do_deed.specs.Acted.{Acted}
use Rattle.do_deed.specs.Deeds.{stack_by, spot_by, OnStack, whole_of, OneDeed}

-- a stack with one cursor in all its places
abbrev full : Spot → List Spot
full a = replicate stack_holds a

-- a cursor that is not at a
abbrev off : Spot → Spot
off a = at_x (a.x + 1) a

off_it : (a : Spot) → off a ≡ a → ⊥
off_it a e = let z : a.x + 1 ≡ a.x = ap (λ s. s.x) e in omega arith

-- what is taken off a place of the stack is not the same for all stacks
taken : (n : ℕ) (a : Spot) → n < stack_holds → ((l : List Spot) → a ≡ get_or l n origin) → ⊥
taken n a h f = off_it origin (sym (get_or-replicate stack_holds n (off origin) origin h) ∙ sym (f (full (off origin))) ∙ f (full origin) ∙ get_or-replicate stack_holds n origin origin h)

-- what is put there changes some stack
written : (n : ℕ) (a : Spot) → n < stack_holds → ((l : List Spot) → l ≡ set l n a) → ⊥
written n a h f =
    off_it a
    (sym (get_or-replicate stack_holds n (off a) origin h) ∙ ap (λ l. get_or l n origin) (f (full (off a)))
    ∙ get_or-set_same (full (off a)) n a origin (rw (length-replicate stack_holds (off a)) h))

-- no place becomes twenty
freed : (l : List Spot) → l ≡ [] → l ≡ replicate stack_holds origin → ⊥
freed l e h = let z : ◌≡◌ {A = ℕ} 0 20 = sym (ap length e) ∙ ap length h in omega arith

-- two ways that do the same to every stack and every cursor are one, and so is the pen's cursor
one_way : (s s' : Stacking) (p : Pen) (r r' : Deed) → OnStack s p r → OnStack s' p r' → ((l : List Spot) → stack_by s p r.pen.depth l ≡ stack_by s' p r'.pen.depth l)
    → ((l : List Spot) → spot_by s r.pen l ≡ spot_by s' r'.pen l) → (s ≡ s') × (r.pen.at ≡ r'.pen.at)
one_way Kept Kept p r r' x y f t = (refl, t [])
one_way Kept Pushed p r r' x y f t = absurd (written _ _ y.0 f)
one_way Kept Popped p r r' x y f t = absurd (taken _ _ y.0 t)
one_way Kept Emptied p r r' x y f t = absurd (freed [] refl (f []))
one_way Pushed Kept p r r' x y f t = absurd (written _ _ x.0 (λ l. sym (f l)))
one_way Pushed Pushed p r r' x y f t = (refl, t [])
one_way Pushed Popped p r r' x y f t = absurd (taken _ _ y.0 t)
one_way Pushed Emptied p r r' x y f t = absurd (freed _ refl (f []))
one_way Popped Kept p r r' x y f t = absurd (taken _ _ x.0 (λ l. sym (t l)))
one_way Popped Pushed p r r' x y f t = absurd (taken _ _ x.0 (λ l. sym (t l)))
one_way Popped Popped p r r' x y f t = (refl, x.3 ∙ sym y.3)
one_way Popped Emptied p r r' x y f t = absurd (taken _ _ x.0 (λ l. sym (t l)))
one_way Emptied Kept p r r' x y f t = absurd (freed [] refl (sym (f [])))
one_way Emptied Pushed p r r' x y f t = absurd (freed _ refl (sym (f [])))
one_way Emptied Popped p r r' x y f t = absurd (taken _ _ y.0 t)
one_way Emptied Emptied p r r' x y f t = (refl, t [])

pub one_deed : OneDeed
one_deed g o p seed page r r' seed' seed'' page' page'' h k =
    let same : (l : List Spot) → whole_of p l seed' r ≡ whole_of p l seed'' r' = λ l. (h.acted l).given ∙ sym (k.acted l).given in
    let w = one_way r.stacking r'.stacking p r r' h.placed k.placed (λ l. ap (λ (a : Acted). a.core.stack) (same l)) (λ l. ap (λ (a : Acted). a.core.at) (same l)) in
    let s = w.0 in
    let at = w.1 in
    let layout = ap (λ (a : Acted). a.core.layout) (same []) in
    let raster = ap (λ (a : Acted). a.core.raster) (same []) in
    let used = ap (λ (a : Acted). a.core.used) (same []) in
    let depth = ap (λ (a : Acted). a.core.depth) (same []) in
    let beside = ap (λ (a : Acted). a.beside) (same []) in
    let finding = ap (λ (a : Acted). a.finding) (same []) in
    let ended = ap (λ (a : Acted). a.ended) (same []) in (
      λ i. record { pen = record { at = at i; layout = layout i; raster = raster i; used = used i; depth = depth i }; beside = beside i; finding = finding i; ended = ended i; stacking = s i },
      ap (λ (a : Acted). a.core.seed) (same []),
      (h.acted []).page ∙ sym (k.acted []).page,
    )
