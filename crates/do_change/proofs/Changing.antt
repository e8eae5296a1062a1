-- What a command's change makes of the core, and the stack's own command. Assumes nothing.
use Prim.{tt}
use mathlib.Core.Path.{◌≡◌, refl}
use mathlib.Core.Bool.{Bool, true, false, cond}
use Prim.Native.Nat.{ℕ, ◌≤◌}
use native.Mathlib.Omega.{arith}
use lib.Dec.{eqb, ltb}
use borrow.Author.Tests.{ltb-true}
use Rattle.rules.specs.declared.Measure.{Measure}
use Rattle.rules.specs.declared.Kind.{Kind}
use Rattle.rules.specs.declared.Kind.TheVariants.{Column, DecipointAcross, DotAcross, DecipointDown, DotDown, Line, LeftMargin, RightMargin, TopMargin, Vmi, LinesPerInch, Hmi, Termination, PushPop, Resolution, StartRaster, EndRaster, ResetRaster, SkipRows}
use Rattle.rules.specs.declared.Value.{Value}
use Rattle.rules.specs.declared.Finding.{Finding}
use Rattle.rules.specs.declared.Finding.TheVariants.{Nothing, EndsInside, CannotStand, NotCarried, NotAllowed, StackLimit, NotNow, DamagedRow}
use Rattle.rules.specs.declared.Core.{Core}
use Rattle.rules.specs.Measure.{stack_holds}
use Rattle.rules.specs.Findings.{is_clean}
use Rattle.rules.specs.Number.{whole_part}
use Rattle.rules.specs.Effects.{started_at, barred, effect}
use Rattle.rules.specs.Acts.{beside_after}
use Rattle.do_change.specs.declared.Change.{Change}
use Rattle.std.specs.Prelude.{Ok, Err}
use Rattle.do_change.specs.declared.Change.TheVariants.{Pushed, Popped}
use Rattle.do_change.specs.Changed.{change_by, change_of, Goes}

-- ---- a command's change makes the core, the row method and the finding that the rules have
module _ (g : Measure) (k : Kind) (v : Value) (c : Core) where
  -- a command that is barred changes nothing
  gated : (f : Finding) (d : Change) → barred g k v c ≡ f → (barred g k v c ≡ Nothing → Goes g k v (Ok d) c) → Goes g k v (cond (is_clean f) (Ok d) (Err f)) c
  gated Nothing d e h = h e
  gated EndsInside d e h = record { bar = e; there = refl; aside = λ w m. refl; placed = tt }
  gated CannotStand d e h = record { bar = e; there = refl; aside = λ w m. refl; placed = tt }
  gated NotCarried d e h = record { bar = e; there = refl; aside = λ w m. refl; placed = tt }
  gated NotAllowed d e h = record { bar = e; there = refl; aside = λ w m. refl; placed = tt }
  gated StackLimit d e h = record { bar = e; there = refl; aside = λ w m. refl; placed = tt }
  gated NotNow d e h = record { bar = e; there = refl; aside = λ w m. refl; placed = tt }
  gated DamagedRow d e h = record { bar = e; there = refl; aside = λ w m. refl; placed = tt }

-- a finding that is one is not none
never : (f : Finding) → is_clean f ≡ false → f ≡ Nothing → ⊥
never f e h =
    let d : true ≡ false = rw h at e in
    let z : ◌≡◌ {A = ℕ} 0 1 = cc in
    omega arith

-- a push or a pop that nothing bars has its place on the stack
stack_goes : (g : Measure) (v : Value) (c : Core) → c.depth ≤ stack_holds → barred g PushPop v c ≡ Nothing → Goes g PushPop v (Ok (cond (eqb (whole_part v) 0) Pushed Popped)) c
unfolding barred effect beside_after
stack_goes g v c b h = go (eqb (whole_part v) 0) refl (eqb (whole_part v) 1) refl (ltb c.depth 20) refl (ltb 0 c.depth) refl
  where
    go : (t : Bool) → eqb (whole_part v) 0 ≡ t → (u : Bool) → eqb (whole_part v) 1 ≡ u → (x : Bool) → ltb c.depth 20 ≡ x → (y : Bool) → ltb 0 c.depth ≡ y → Goes g PushPop v (Ok (cond (eqb (whole_part v) 0) Pushed Popped)) c
    go true e u f true i y j = rw e (record { bar = h; there = rw e; aside = λ w m. refl; placed = ltb-true c.depth 20 i })
    go true e u f false i y j = absurd (never StackLimit refl (rw (e, i) at h))
    go false e true f x i true j = rw e (record { bar = h; there = rw e; aside = λ w m. refl; placed = (ltb-true 0 c.depth j, b) })
    go false e true f x i false j = absurd (never StackLimit refl (rw (e, f, j) at h))
    go false e false f x i y j = absurd (never NotAllowed refl (rw (e, f) at h))

-- any command's change
pub change_goes : (g : Measure) (k : Kind) (v : Value) (c : Core) → c.depth ≤ stack_holds → Goes g k v (change_of g k v c.at c.layout c.raster c.depth) c
unfolding change_of change_by barred effect beside_after started_at
change_goes g Column v c b = record { bar = refl; there = refl; aside = λ w m. refl; placed = tt }
change_goes g DecipointAcross v c b = record { bar = refl; there = refl; aside = λ w m. refl; placed = tt }
change_goes g DotAcross v c b = record { bar = refl; there = refl; aside = λ w m. refl; placed = tt }
change_goes g DecipointDown v c b = record { bar = refl; there = refl; aside = λ w m. refl; placed = tt }
change_goes g DotDown v c b = record { bar = refl; there = refl; aside = λ w m. refl; placed = tt }
change_goes g Line v c b = record { bar = refl; there = refl; aside = λ w m. refl; placed = tt }
change_goes g LeftMargin v c b = gated g LeftMargin v c _ _ refl (λ h. record { bar = h; there = refl; aside = λ w m. refl; placed = tt })
change_goes g RightMargin v c b = gated g RightMargin v c _ _ refl (λ h. record { bar = h; there = refl; aside = λ w m. refl; placed = tt })
change_goes g TopMargin v c b = gated g TopMargin v c _ _ refl (λ h. record { bar = h; there = refl; aside = λ w m. refl; placed = tt })
change_goes g Vmi v c b = gated g Vmi v c _ _ refl (λ h. record { bar = h; there = refl; aside = λ w m. refl; placed = tt })
change_goes g LinesPerInch v c b = gated g LinesPerInch v c _ _ refl (λ h. record { bar = h; there = refl; aside = λ w m. refl; placed = tt })
change_goes g Hmi v c b = record { bar = refl; there = refl; aside = λ w m. refl; placed = tt }
change_goes g Termination v c b = gated g Termination v c _ _ refl (λ h. record { bar = h; there = refl; aside = λ w m. refl; placed = tt })
change_goes g PushPop v c b = gated g PushPop v c _ _ refl (stack_goes g v c b)
change_goes g Resolution v c b = gated g Resolution v c _ _ refl (λ h. record { bar = h; there = refl; aside = λ w m. refl; placed = tt })
change_goes g StartRaster v c b = gated g StartRaster v c _ _ refl (λ h. record { bar = h; there = refl; aside = λ w m. refl; placed = tt })
change_goes g EndRaster v c b = record { bar = refl; there = refl; aside = λ w m. refl; placed = tt }
change_goes g ResetRaster v c b = record { bar = refl; there = refl; aside = λ w m. refl; placed = tt }
change_goes g SkipRows v c b = gated g SkipRows v c _ _ refl (λ h. record { bar = h; there = refl; aside = λ w m. refl; placed = tt })
