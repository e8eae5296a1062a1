-- What parking a state promises.
use Rattle.std.specs.Prelude.{◌≡◌, List, ℕ}
use Rattle.rules.specs.declared.State.{State}
use Rattle.rules.specs.Given.{Parking}
use Rattle.rules.specs.Park.{park}

-- the answer and the room as the rules have them
pub record Parks (W H : ℕ) (t : State) (before : List ℕ) (r : Parking) (after : List ℕ) : Type 0 where
  pub given : r ≡ (park W H t before).parking
  pub lent : after ≡ (park W H t before).room
