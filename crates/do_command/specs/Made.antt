-- What a change does to pen, stack and seed row.
use Rattle.std.specs.Prelude.{◌≡◌, false, List, ℕ, Result}
use Rattle.rules.specs.declared.Spot.{Spot}
use Rattle.rules.specs.declared.Beside.{Beside}
use Rattle.rules.specs.declared.Finding.{Finding}
use Rattle.do_change.specs.declared.Change.{Change}
use Rattle.do_change.specs.Changed.{made, method_by, found_by}
use Rattle.state_pen.specs.declared.Pen.{Pen}
use Rattle.state_pen.specs.Pens.{core_of}
use Rattle.do_deed.specs.declared.Deed.{Deed}
use Rattle.do_deed.specs.Acted.{acted_of}
use Rattle.do_deed.specs.Deeds.{OnStack, whole_of}

-- the deed r makes the change d, or tells the finding that bars it
pub record MadeBy (d : Result Change Finding) (p : Pen) (m : Beside) (seed : List ℕ) (r : Deed) (seed' : List ℕ) : Type 0 where
  pub whole : (l : List Spot) → whole_of p l seed' r ≡ acted_of (made d (core_of p l seed)) (method_by d m) (found_by d) false
  pub placed : OnStack r.stacking p r
