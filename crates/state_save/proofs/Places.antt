-- The bytes of places, one place more, and of a state, part by part. Assumes nothing.
use mathlib.Core.Path.{◌≡◌, refl, ap, ◌∙◌}
use mathlib.Core.List.{List, [], ◌∷◌, ◌++◌}
use Prim.Native.Nat.{ℕ, ◌+◌, ◌<◌}
use Rattle.std.specs.Prelude.{length, get_or, take}
use Rattle.std.proofs.lemmas.List.{take_more}
use Rattle.common.specs.declared.writer.Writer.{Writer}
use Rattle.common.specs.Writing.{Written}
use Rattle.common.proofs.Writing.{written_both}
use Rattle.rules.specs.declared.Spot.{Spot}
use Rattle.rules.specs.declared.State.{State}
use Rattle.state_load.specs.Kept.{spot_bytes, stack_bytes, front_bytes, state_bytes}

-- places, and more behind them
both_places : (a b : List Spot) → stack_bytes (a ++ b) ≡ stack_bytes a ++ stack_bytes b
unfolding stack_bytes
both_places [] b = refl
both_places (p ∷ a) b = ap (λ (l : List ℕ). spot_bytes p ++ l) (both_places a b)

-- one place more
pub next_place : (s : List Spot) (i : ℕ) (d : Spot) → i < length s → stack_bytes (take (i + 1) s) ≡ stack_bytes (take i s) ++ spot_bytes (get_or s i d)
unfolding stack_bytes
next_place s i d h = ap stack_bytes (take_more s i d h) ∙ both_places (take i s) (get_or s i d ∷ [])

-- what stands before the stack, the stack, the seed row: a state
pub written_state : {a b c d : Writer} (t : State) → Written a (front_bytes t) b → Written b (stack_bytes t.core.stack) c → Written c t.core.seed d → Written a (state_bytes t) d
unfolding state_bytes
written_state t p q s = written_both p (written_both q s)
