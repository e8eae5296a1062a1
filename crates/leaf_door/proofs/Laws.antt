-- What was written at a place of a room. Assumes nothing.
use mathlib.Core.Path.{◌≡◌, ◌∙◌}
use mathlib.Core.List.{List, []}
use Prim.Native.Nat.{ℕ, min}
use native.Mathlib.Omega.{arith}
use lib.ListN.{length}
use Rattle.common.specs.Stores.{Wrote}
use Rattle.common.proofs.Stores.{sets_at}
use Rattle.rules.specs.declared.Value.{Value}
use Rattle.rules.specs.Plain.{put_value}

-- what was written from the nearer of a place and the room's end on was written from that place on
pub wrote_from : (before after : List ℕ) (at m r : ℕ) (v x : Value) → m ≡ min at (length before) → v ≡ x → Wrote before m (put_value v []) after r → Wrote before at (put_value x []) after r
wrote_from before after at m r v x e f p =
    let q : Wrote before (min at (length before)) (put_value x []) after r = rw (← e, ← f) p in
    record { next = omega (arith, q.next); held = q.held ∙ sets_at before at (put_value x []) }
