-- A core in three parts: its pen, its stack, its seed row.
use Rattle.std.specs.Prelude.{List, ℕ}
use Rattle.rules.specs.declared.Spot.{Spot}
use Rattle.rules.specs.declared.Core.{Core}
use Rattle.state_pen.specs.declared.Pen.{Pen}

-- the pen of a core
abbrev pub pen_of : Core → Pen
pen_of c = record { at = c.at; layout = c.layout; raster = c.raster; used = c.used; depth = c.depth }

-- a core from its pen, its stack and its seed row
abbrev pub core_of : Pen → List Spot → List ℕ → Core
core_of p l b = record { at = p.at; layout = p.layout; raster = p.raster; used = p.used; depth = p.depth; stack = l; seed = b }
