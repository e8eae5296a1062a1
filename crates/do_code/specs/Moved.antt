-- Where a control code leaves the cursor, apart from the rest of the core.
use Rattle.std.specs.Prelude.{◌≡◌, false, cond}
use Rattle.rules.specs.declared.Measure.{Measure}
use Rattle.rules.specs.declared.Code.{Code}
use Rattle.rules.specs.declared.Spot.{Spot}
use Rattle.rules.specs.declared.Layout.{Layout}
use Rattle.rules.specs.declared.Core.{Core}
use Rattle.rules.specs.States.{with_at, with_used}
use Rattle.rules.specs.Codes.{coded}
use Rattle.rules.specs.Acts.{ends_page, control}

-- r is where the code k leaves a cursor that is at p, with the layout l; a code that ends the page makes the next one unused
abbrev pub Moved : Measure → Code → Spot → Layout → Spot → Type 0
Moved g k p l r = (c : Core) → p ≡ c.at → l ≡ c.layout → with_used (cond (ends_page (control k) c) false c.used) (with_at r c) ≡ coded g k c

-- two cursors that it allows for one input are equal
abbrev pub OneMove : Type 0
OneMove = (g : Measure) (k : Code) (p : Spot) (l : Layout) (r r' : Spot) → Moved g k p l r → Moved g k p l r' → r ≡ r'
