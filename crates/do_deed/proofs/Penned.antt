-- What an item does to pen, stack and seed row, from what it does to the core. Assumes nothing.
use Prim.{tt}
use mathlib.Core.Path.{◌≡◌}
use mathlib.Core.Bool.{Bool, false}
use mathlib.Core.List.{List}
use Prim.Native.Nat.{ℕ, ◌<◌}
use lib.ListN.{get_or, set, replicate}
use Rattle.rules.specs.declared.Measure.{Measure}
use Rattle.rules.specs.declared.Finding.{Finding}
use Rattle.rules.specs.declared.Finding.TheVariants.{Nothing}
use Rattle.rules.specs.declared.Spot.{Spot}
use Rattle.rules.specs.declared.Layout.{Layout}
use Rattle.rules.specs.declared.Raster.{Raster}
use Rattle.rules.specs.declared.Core.{Core}
use Rattle.rules.specs.declared.Beside.{Beside}
use Rattle.rules.specs.Measure.{stack_holds, origin}
use Rattle.rules.specs.Acts.{Meaning, nothing_done}
use Rattle.state_pen.specs.declared.Pen.{Pen}
use Rattle.state_pen.specs.Pens.{core_of}
use Rattle.do_deed.specs.declared.Deed.{Deed}
use Rattle.do_deed.specs.declared.Stacking.TheVariants.{Kept, Pushed, Popped, Emptied}
use Rattle.do_deed.specs.Deeds.{deed_of, whole_of, OnStack, DeedOn, DeedFor}
use Rattle.do_deed.proofs.Acts.{done_nothing}

-- a pen of these parts
abbrev pub pen_with : Spot → Layout → Raster → Bool → ℕ → Pen
pen_with at l r u n = record { at = at; layout = l; raster = r; used = u; depth = n }

module _ (g : Measure) (p : Pen) (m : Beside) where
  -- a meaning that is the same in every core
  pub same_meaning : (o x : Core → Meaning) (seed page : List ℕ) (r : Deed) (seed' page' : List ℕ) → ((c : Core) → x c ≡ o c) → DeedOn g o p seed page r seed' page' → DeedOn g x p seed page r seed' page'
  same_meaning o x seed page r seed' page' e h = record { acted = λ l. rw (e (core_of p l seed)) (h.acted l); placed = h.placed }

  -- nothing is done
  pub nothing : (o : Core → Meaning) (f : Finding) (r : Deed) → ((c : Core) → o c ≡ nothing_done f m) → r ≡ deed_of p m f false Kept → (b : List ℕ) → DeedFor g o p b r b
  nothing o f r e h b page = rw h (record { acted = λ l. rw (e (core_of p l b)) (done_nothing g f (core_of p l b) m page); placed = tt })

-- ---- the core behind a deed, by what is to be done to the stack
module _ (p : Pen) (l : List Spot) (b : List ℕ) (r : Deed) where
  pub pushed_core : r.stacking ≡ Pushed → (whole_of p l b r).core ≡ core_of r.pen (set l p.depth p.at) b
  pushed_core e = rw e

  pub popped_core : r.stacking ≡ Popped → (whole_of p l b r).core ≡ core_of (pen_with (get_or l r.pen.depth origin) r.pen.layout r.pen.raster r.pen.used r.pen.depth) (set l r.pen.depth origin) b
  popped_core e = rw e

  pub kept_there : (l' : List Spot) → r.stacking ≡ Kept → l' ≡ l → (whole_of p l b r).core ≡ core_of r.pen l' b
  kept_there l' e h = rw (e, h)

  pub emptied_there : (l' : List Spot) → r.stacking ≡ Emptied → l' ≡ replicate stack_holds origin → (whole_of p l b r).core ≡ core_of r.pen l' b
  emptied_there l' e h = rw (e, h)

module _ (p : Pen) (r : Deed) (k : OnStack r.stacking p r) where
  -- a push writes a place of the stack, finds nothing and ends no page
  pub push_placed : r.stacking ≡ Pushed → (p.depth < stack_holds) × (r.finding ≡ Nothing) × (r.ended ≡ false)
  push_placed e = rw e at k

  -- and so does a pop, whose pen stays where it was
  pub pop_placed : r.stacking ≡ Popped → (r.pen.depth < stack_holds) × (r.finding ≡ Nothing) × (r.ended ≡ false) × (r.pen.at ≡ p.at)
  pop_placed e = rw e at k
