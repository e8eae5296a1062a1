-- What the rules say of each place and of each byte, in the library's word for it. Assumes nothing.
use mathlib.Core.Path.{◌≡◌, refl, ap}
use mathlib.Core.Bool.{◌&&◌}
use mathlib.Core.List.{List, [], ◌∷◌}
use Prim.Native.Nat.{ℕ}
use Rattle.std.proofs.Common.{eqb}
use Rattle.std.specs.List.{list_all}
use Rattle.rules.specs.declared.Measure.{Measure}
use Rattle.rules.specs.declared.Spot.{Spot}
use Rattle.rules.specs.Sound.{in_page, all_in_page, all_free, all_zero}

-- each place lies in the page
pub each_in_page : (g : Measure) (l : List Spot) → all_in_page g l ≡ list_all (λ p. in_page g p) l
unfolding all_in_page
each_in_page g [] = refl
each_in_page g (p ∷ l) = ap (λ b. in_page g p && b) (each_in_page g l)

-- each place is free
pub each_free : (l : List Spot) → all_free l ≡ list_all (λ p. eqb p.x 0 && eqb p.y 0) l
unfolding all_free
each_free [] = refl
each_free (p ∷ l) = ap (λ b. eqb p.x 0 && eqb p.y 0 && b) (each_free l)

-- each byte is zero
pub each_zero : (l : List ℕ) → all_zero l ≡ list_all (λ b. eqb b 0) l
unfolding all_zero
each_zero [] = refl
each_zero (b ∷ l) = ap (λ c. eqb b 0 && c) (each_zero l)
