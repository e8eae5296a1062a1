-- Where a position puts the cursor.
use Rattle.std.specs.Prelude.{ℕ}
use Rattle.rules.specs.declared.Measure.{Measure}
use Rattle.rules.specs.declared.Value.{Value}
use Rattle.rules.specs.declared.Spot.{Spot}
use Rattle.rules.specs.Measure.{into_width, into_height}
use Rattle.rules.specs.States.{at_x, at_y}
use Rattle.rules.specs.Effects.{target}

-- the cursor of `across`
abbrev pub across_spot : Measure → ℕ → Value → Spot → Spot
across_spot g unit v p = at_x (into_width g (target 0 p.x unit v)) p

-- the cursor of `down`
abbrev pub down_spot : Measure → ℕ → ℕ → Value → Spot → Spot
down_spot g base unit v p = at_y (into_height g (target base p.y unit v)) p
