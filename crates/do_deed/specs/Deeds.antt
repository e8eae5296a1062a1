-- What an item does to pen, stack and seed row.
use Prim.{Unit}
use Rattle.std.specs.Prelude.{◌≡◌, Bool, false, List, ℕ, ◌<◌, get_or, set, replicate}
use Rattle.rules.specs.declared.Measure.{Measure}
use Rattle.rules.specs.declared.Spot.{Spot}
use Rattle.rules.specs.declared.Finding.{Finding}
use Rattle.rules.specs.declared.Finding.TheVariants.{Nothing}
use Rattle.rules.specs.declared.Core.{Core}
use Rattle.rules.specs.declared.Beside.{Beside}
use Rattle.rules.specs.Measure.{stack_holds, origin}
use Rattle.rules.specs.Acts.{Meaning}
use Rattle.state_pen.specs.declared.Pen.{Pen}
use Rattle.state_pen.specs.Pens.{core_of}
use Rattle.do_deed.specs.declared.Stacking.{Stacking}
use Rattle.do_deed.specs.declared.Stacking.TheVariants.{Kept, Pushed, Popped, Emptied}
use Rattle.do_deed.specs.declared.Deed.{Deed}
use Rattle.do_deed.specs.Acted.{Acted, acted_of, ActedOn}

abbrev pub deed_of : Pen → Beside → Finding → Bool → Stacking → Deed
deed_of p m f ended how = record { pen = p; beside = m; finding = f; ended = ended; stacking = how }

-- the stack behind an item that met the pen p and left the depth n
abbrev pub stack_by : Stacking → Pen → ℕ → List Spot → List Spot
stack_by Kept p n l = l
stack_by Pushed p n l = set l p.depth p.at
stack_by Popped p n l = set l n origin
stack_by Emptied p n l = replicate stack_holds origin

-- the cursor behind it, which a pop takes off the stack
abbrev pub spot_by : Stacking → Pen → List Spot → Spot
spot_by Kept q l = q.at
spot_by Pushed q l = q.at
spot_by Popped q l = get_or l q.depth origin
spot_by Emptied q l = q.at

-- a push or a pop writes a place that the stack has, finds nothing and ends no page; the pen of a pop stays where it was, until the cursor is taken off
abbrev pub OnStack : Stacking → Pen → Deed → Type 0
OnStack Kept p r = Unit {0}
OnStack Pushed p r = (p.depth < stack_holds) × (r.finding ≡ Nothing) × (r.ended ≡ false)
OnStack Popped p r = (r.pen.depth < stack_holds) × (r.finding ≡ Nothing) × (r.ended ≡ false) × (r.pen.at ≡ p.at)
OnStack Emptied p r = Unit {0}

-- the pen of a deed with the cursor behind it
abbrev pub pen_after : Deed → List Spot → Pen
pen_after r l = record { at = spot_by r.stacking r.pen l; layout = r.pen.layout; raster = r.pen.raster; used = r.pen.used; depth = r.pen.depth }

-- what the deed r of an item that met the pen p comes to, where the stack was l and the seed row is b
abbrev pub whole_of : Pen → List Spot → List ℕ → Deed → Acted
whole_of p l b r = acted_of (core_of (pen_after r l) (stack_by r.stacking p r.pen.depth l) b) r.beside r.finding r.ended

-- the deed r, the seed row and the page's bytes behind an item whose meaning in the core c is o c, whatever the stack
pub record DeedOn (g : Measure) (o : Core → Meaning) (p : Pen) (seed page : List ℕ) (r : Deed) (seed' page' : List ℕ) : Type 0 where
  pub acted : (l : List Spot) → ActedOn g (o (core_of p l seed)) (core_of p l seed) page (whole_of p l seed' r) page'
  pub placed : OnStack r.stacking p r

-- the same, whatever the page, which stays as it is
abbrev pub DeedFor : Measure → (Core → Meaning) → Pen → List ℕ → Deed → List ℕ → Type 0
DeedFor g o p seed r seed' = (page : List ℕ) → DeedOn g o p seed page r seed' page

-- One deed: two that the promise allows for one item are equal, with the seed row and the page behind them. A promise whatever the page is one for each
-- page, so that this holds of it too.
abbrev pub OneDeed : Type 0
OneDeed = (g : Measure) (o : Core → Meaning) (p : Pen) (seed page : List ℕ) (r r' : Deed) (seed' seed'' page' page'' : List ℕ)
    → DeedOn g o p seed page r seed' page' → DeedOn g o p seed page r' seed'' page'' → (r ≡ r') × (seed' ≡ seed'') × (page' ≡ page'')
