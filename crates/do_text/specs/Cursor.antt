-- Where text leaves the cursor, apart from the rest of the core.
use Rattle.std.specs.Prelude.{ℕ, ◌+◌, min, ◌≡◌, Bool, cond, not, ◌||◌, List, eqb, leb}
use Rattle.rules.specs.declared.Measure.{Measure}
use Rattle.rules.specs.declared.Spot.{Spot}
use Rattle.rules.specs.declared.Layout.{Layout}
use Rattle.rules.specs.declared.Core.{Core}
use Rattle.rules.specs.Measure.{LW, into_width}
use Rattle.rules.specs.States.{at_x, with_at, with_used}
use Rattle.rules.specs.Codes.{typed_all}
use Rattle.state_pen.specs.declared.Pen.{Pen}
use Rattle.do_text.specs.declared.Typed.{Typed}

-- forward to n, but no further than R if x ≤ R, else LW: the cursor of `forward_to`
abbrev pub forward_spot : Measure → ℕ → Spot → Layout → Spot
forward_spot g n p l = at_x (into_width g (min n (cond (leb p.x l.right) l.right (LW g)))) p

-- forward by HMI: the cursor of `typed`
abbrev pub typed_spot : Measure → Spot → Layout → Spot
typed_spot g p l = forward_spot g (p.x + l.hmi) p l

-- the pen behind the byte b: the cursor moved, and the page used by all but a space
abbrev pub typed_pen : Measure → Pen → ℕ → Pen
typed_pen g p b = record { at = typed_spot g p.at p.layout; layout = p.layout; raster = p.raster; used = p.used || not (eqb b 32); depth = p.depth }

-- r is where the text s leaves a cursor that is at p, with the layout l, and whether a page that is used or not is then used
abbrev pub TypedAll : Measure → List ℕ → Spot → Layout → Bool → Typed → Type 0
TypedAll g s p l u r = (c : Core) → p ≡ c.at → l ≡ c.layout → u ≡ c.used → with_used r.used (with_at r.at c) ≡ typed_all g s c

-- two answers that it allows for one input are equal
abbrev pub OneTypedAll : Type 0
OneTypedAll = (g : Measure) (s : List ℕ) (p : Spot) (l : Layout) (u : Bool) (r r' : Typed) → TypedAll g s p l u r → TypedAll g s p l u r' → r ≡ r'
