-- What a row does to the core, in parts; what sets the row method back. Assumes nothing.
use mathlib.Core.Path.{◌≡◌, refl}
use mathlib.Core.Bool.{Bool, true, false, cond}
use mathlib.Core.List.{List}
use Prim.Native.Nat.{ℕ}
use Rattle.common.specs.Lists.{pad}
use Rattle.rules.specs.declared.Measure.{Measure}
use Rattle.rules.specs.declared.Core.{Core}
use Rattle.rules.specs.Measure.{row_holds}
use Rattle.rules.specs.States.{with_started, with_margin, with_at, with_raster, with_used, with_seed, zero_seed}
use Rattle.rules.specs.Effects.{started_at}
use Rattle.rules.specs.Acts.{begun, drawn}
use Rattle.do_seed.specs.Cursor.{raster_begun, row_spot, moved_on}

-- what a row does to the core: raster begun, moved on, and the row is the seed row
pub drawn_parts : (g : Measure) (row : List ℕ) (c : Core) → drawn g row c ≡ with_seed (pad row_holds row) (moved_on g (begun c))
unfolding drawn
drawn_parts g row c = refl

-- what a row does to the core, from its parts: the raster state that it is drawn in and the cursor behind it
pub row_parts : (g : Measure) (c : Core) (row : List ℕ) → with_seed row (moved_on g (begun c)) ≡ with_seed row (with_used true (with_raster (raster_begun c.raster) (with_at (row_spot g c.at (raster_begun c.raster)) c)))
unfolding started_at
row_parts g c row = go c.raster.started
  where
    go : (t : Bool) → with_seed row (moved_on g (cond t c (started_at 0 c)))
        ≡ with_seed row (with_used true (with_raster (cond t c.raster (with_started true (with_margin 0 c.raster))) (with_at (row_spot g c.at (cond t c.raster (with_started true (with_margin 0 c.raster)))) c)))
    go true = refl
    go false = refl

pub begun_raster : (c : Core) → (begun c).raster ≡ raster_begun c.raster
unfolding started_at
begun_raster c = go c.raster.started
  where
    go : (t : Bool) → (cond t c (started_at 0 c)).raster ≡ cond t c.raster (with_started true (with_margin 0 c.raster))
    go true = refl
    go false = refl

pub begun_at : (c : Core) → (begun c).at ≡ c.at
unfolding started_at
begun_at c = go c.raster.started
  where
    go : (t : Bool) → (cond t c (started_at 0 c)).at ≡ c.at
    go true = refl
    go false = refl

pub begun_seed : (c : Core) → cond c.raster.started c.seed zero_seed ≡ (begun c).seed
unfolding started_at
begun_seed c = go c.raster.started
  where
    go : (t : Bool) → cond t c.seed zero_seed ≡ (cond t c (started_at 0 c)).seed
    go true = refl
    go false = refl
