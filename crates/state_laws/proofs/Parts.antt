-- A state put together from what was read. Assumes nothing.
use mathlib.Core.Path.{◌≡◌}
use mathlib.Core.Bool.{Bool, cond, not}
use mathlib.Core.List.{List}
use Prim.Native.Nat.{ℕ, ◌+◌, ◌*◌}
use lib.Dec.{eqb}
use lib.ListN.{get_or}
use borrow.Author.Tests.{ne_eqb}
use Rattle.rules.specs.declared.Spot.{Spot}
use Rattle.rules.specs.declared.Layout.{Layout}
use Rattle.rules.specs.declared.Raster.{Raster}
use Rattle.rules.specs.declared.Sequence.{Sequence}
use Rattle.rules.specs.declared.Sequence.TheVariants.{Open}
use Rattle.rules.specs.declared.Core.{Core}
use Rattle.rules.specs.Measure.{spot}
use Rattle.rules.specs.States.{beside_of, state_of}
use Rattle.state_load.specs.Kept.{u32_at, u64_at, spot_at, stack_at, seed_at, layout_at, raster_at, core_at, is_state, sequence_at, state_at}

module _ (b : List ℕ) where
  pub layout_is : (l r t h v e : ℕ) → l ≡ u32_at b 8 → r ≡ u32_at b 12 → t ≡ u32_at b 16 → h ≡ u32_at b 20 → v ≡ u32_at b 24 → e ≡ get_or b 34 0
      → record { left = l; right = r; top = t; hmi = h; vmi = v; termination = e } ≡ layout_at b
  layout_is l r t h v e p q s u w x = rw (p, q, s, u, w, x)

  pub raster_is : (r : ℕ) (s : Bool) (m : ℕ) → r ≡ get_or b 32 0 + 256 * get_or b 33 0 → s ≡ not (eqb (get_or b 36 0) 0) → m ≡ u32_at b 28 → record { resolution = r; started = s; margin = m } ≡ raster_at b
  raster_is r s m p q u = rw (p, q, u)

  pub core_is : (p : Spot) (l : Layout) (r : Raster) (u : Bool) (d : ℕ) (s : List Spot) (e : List ℕ) → p ≡ spot_at b 0 → l ≡ layout_at b → r ≡ raster_at b → u ≡ not (eqb (get_or b 37 0) 0) → d ≡ u64_at b 40 → s ≡ stack_at b → e ≡ seed_at b
      → record { at = p; layout = l; raster = r; used = u; depth = d; stack = s; seed = e } ≡ core_at b
  core_is p l r u d s e p' l' r' u' d' s' e' = rw (p', l', r', u', d', s', e')

  pub state_is : (c : Core) (m : ℕ) (q : Sequence) → c ≡ core_at b → m ≡ cond (is_state b) (get_or b 35 0) 255 → q ≡ sequence_at b → state_of c (beside_of m) q ≡ state_at b
  unfolding state_at
  state_is c m q c' m' q' = rw (c', m', q')

  -- an open sequence, by its first byte
  pub open_first : (first group : ℕ) → first ≡ get_or b 38 0 → group ≡ get_or b 39 0 → (first ≡ 0 → ⊥) → Open first group ≡ sequence_at b
  open_first first group e f h = rw (← e, ← f, ne_eqb first 0 h)

-- two numbers are a place
pub spot_is : (b : List ℕ) (at x y : ℕ) → x ≡ u32_at b at → y ≡ u32_at b (at + 4) → spot x y ≡ spot_at b at
spot_is b at x y e f = rw (e, f)
