-- What a row is drawn in and where it leaves the cursor, apart from the rest of the core.
use Rattle.std.specs.Prelude.{◌+◌, ◌/◌, true, cond}
use Rattle.rules.specs.declared.Measure.{Measure}
use Rattle.rules.specs.declared.Spot.{Spot}
use Rattle.rules.specs.declared.Raster.{Raster}
use Rattle.rules.specs.declared.Core.{Core}
use Rattle.rules.specs.Measure.{inch, into_width, into_height, spot}
use Rattle.rules.specs.States.{with_started, with_margin, to_x, to_y, with_used}
use Rattle.rules.specs.Effects.{row_height}

-- "A row when not started first acts as *r0A.": the raster state of `begun`
abbrev pub raster_begun : Raster → Raster
raster_begun r = cond r.started r (with_started true (with_margin 0 r))

-- at the graphics margin, a row further down: the cursor of `drawn`
abbrev pub row_spot : Measure → Spot → Raster → Spot
row_spot g p r = spot (into_width g r.margin) (into_height g (p.y + inch / r.resolution))

-- what a row does to the core but for the seed row: "x = graphics margin, y + 7,200 / resolution, .. the page is used"
abbrev pub moved_on : Measure → Core → Core
moved_on g c = with_used true (to_y g (c.at.y + row_height c) (to_x g c.raster.margin c))
