-- What a command changes, apart from the rest of the core.
use Rattle.std.specs.Prelude.{◌≡◌, false, cond, [], ℕ, ◌≤◌, ◌<◌, eqb, Result, Ok, Err}
use Prim.{Unit}
use Rattle.rules.specs.declared.Measure.{Measure}
use Rattle.rules.specs.declared.Kind.{Kind}
use Rattle.rules.specs.declared.Kind.TheVariants.{Column, DecipointAcross, DotAcross, DecipointDown, DotDown, Line, LeftMargin, RightMargin, TopMargin, Vmi, LinesPerInch, Hmi, Termination, PushPop, Resolution, StartRaster, EndRaster, ResetRaster, SkipRows}
use Rattle.rules.specs.declared.Value.{Value}
use Rattle.rules.specs.declared.Spot.{Spot}
use Rattle.rules.specs.declared.Layout.{Layout}
use Rattle.rules.specs.declared.Raster.{Raster}
use Rattle.rules.specs.declared.Core.{Core}
use Rattle.rules.specs.declared.Beside.{Beside}
use Rattle.rules.specs.declared.Finding.{Finding}
use Rattle.rules.specs.declared.Finding.TheVariants.{Nothing}
use Rattle.rules.specs.Measure.{stack_holds}
use Rattle.rules.specs.Number.{whole_part}
use Rattle.rules.specs.Findings.{is_clean}
use Rattle.rules.specs.States.{with_at, with_layout, with_raster, with_seed, zero_seed, beside_of}
use Rattle.rules.specs.Effects.{pushed, popped, barred, effect}
use Rattle.rules.specs.Acts.{order, beside_after}
use Rattle.do_change.specs.declared.Change.{Change}
use Rattle.do_change.specs.declared.Change.TheVariants.{To, Laid, Drawn, Fresh, Reset, Pushed, Popped}

-- a core of this cursor, layout, raster state and depth, which are all that a command with a value looks at but for a pop
abbrev pub bare : Spot → Layout → Raster → ℕ → Core
bare p l q n = record { at = p; layout = l; raster = q; used = false; depth = n; stack = []; seed = [] }

-- the change that a command makes which nothing bars, where c is the core behind it: the part of the core that it can change
unfoldable pub change_by : Kind → Value → Core → Change
change_by Column v c = To c.at
change_by DecipointAcross v c = To c.at
change_by DotAcross v c = To c.at
change_by DecipointDown v c = To c.at
change_by DotDown v c = To c.at
change_by Line v c = To c.at
change_by LeftMargin v c = Laid c.at c.layout
change_by RightMargin v c = Laid c.at c.layout
change_by TopMargin v c = Laid c.at c.layout
change_by Vmi v c = Laid c.at c.layout
change_by LinesPerInch v c = Laid c.at c.layout
change_by Hmi v c = Laid c.at c.layout
change_by Termination v c = Laid c.at c.layout
change_by PushPop v c = cond (eqb (whole_part v) 0) Pushed Popped
change_by Resolution v c = Drawn c.raster
change_by StartRaster v c = Fresh c.raster
change_by EndRaster v c = Drawn c.raster
change_by ResetRaster v c = Reset c.raster
change_by SkipRows v c = To c.at

-- what a command changes where the cursor is at p, the layout is l, the raster state is q and n places are on the stack, or the finding that bars it
unfoldable pub change_of : Measure → Kind → Value → Spot → Layout → Raster → ℕ → Result Change Finding
change_of g k v p l q n =
    let c = bare p l q n in
    let f = barred g k v c in
    cond (is_clean f) (Ok (change_by k v (effect g k v c))) (Err f)

-- the core with a change made to it; a command that is barred changes nothing
abbrev pub made : Result Change Finding → Core → Core
made (Ok (To p)) c = with_at p c
made (Ok (Laid p l)) c = with_layout l (with_at p c)
made (Ok (Drawn r)) c = with_raster r c
made (Ok (Fresh r)) c = with_seed zero_seed (with_raster r c)
made (Ok (Reset r)) c = with_seed zero_seed (with_raster r c)
made (Ok Pushed) c = pushed c
made (Ok Popped) c = popped c
made (Err f) c = c

-- the row method behind it
abbrev pub method_by : Result Change Finding → Beside → Beside
method_by (Ok (To p)) m = m
method_by (Ok (Laid p l)) m = m
method_by (Ok (Drawn r)) m = m
method_by (Ok (Fresh r)) m = m
method_by (Ok (Reset r)) m = beside_of 0
method_by (Ok Pushed) m = m
method_by (Ok Popped) m = m
method_by (Err f) m = m

-- the finding that it tells
abbrev pub found_by : Result Change Finding → Finding
found_by (Ok (To p)) = Nothing
found_by (Ok (Laid p l)) = Nothing
found_by (Ok (Drawn r)) = Nothing
found_by (Ok (Fresh r)) = Nothing
found_by (Ok (Reset r)) = Nothing
found_by (Ok Pushed) = Nothing
found_by (Ok Popped) = Nothing
found_by (Err f) = f

-- the stack has the place that it writes
abbrev pub Placed : Result Change Finding → ℕ → Type 0
Placed (Ok (To p)) n = Unit {0}
Placed (Ok (Laid p l)) n = Unit {0}
Placed (Ok (Drawn r)) n = Unit {0}
Placed (Ok (Fresh r)) n = Unit {0}
Placed (Ok (Reset r)) n = Unit {0}
Placed (Ok Pushed) n = n < stack_holds
Placed (Ok Popped) n = (0 < n) × (n ≤ stack_holds)
Placed (Err f) n = Unit {0}

-- the command k with the value v makes the change d to the core c, or is barred by the finding d
pub record Goes (g : Measure) (k : Kind) (v : Value) (d : Result Change Finding) (c : Core) : Type 0 where
  -- what bars it is what is told
  pub bar : barred g k v c ≡ found_by d
  -- the core behind it, which is as it was where it is barred
  pub there : cond (is_clean (found_by d)) (effect g k v c) c ≡ made d c
  -- and the row method
  pub aside : (w : Value) (m : Beside) → cond (is_clean (found_by d)) (beside_after (order k w) m) m ≡ method_by d m
  -- the stack has the place
  pub placed : Placed d c.depth
