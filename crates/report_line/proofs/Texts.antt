-- Laws of lines: a line in front of more is the line, and then more. Assumes nothing.
use mathlib.Core.Path.{◌≡◌, refl, ap, sym, ◌∙◌}
use mathlib.Core.Bool.{Bool, true, false, cond}
use mathlib.Core.List.{List, [], ◌∷◌, ◌++◌, append_assoc}
use Prim.Native.Nat.{ℕ}
use Rattle.rules.specs.Report.{fields, line}
use Rattle.number_write.proofs.Laws.{decimal_append}
use Rattle.rules.specs.Plain.{decimal}

-- the numbers of a line in front of s and t
pub fields_append : (l s t : List ℕ) → fields l (s ++ t) ≡ fields l s ++ t
unfolding fields
fields_append [] s t = refl
fields_append (n ∷ l) s t = ap (λ r. 9 ∷ decimal n r) (fields_append l s t) ∙ ap (λ r. 9 ∷ r) (decimal_append n (fields l s) t)

-- a line in front of s and t
pub line_append : (word l s t : List ℕ) → line word l (s ++ t) ≡ line word l s ++ t
line_append word l s t = ap (λ r. word ++ r) (fields_append l s t) ∙ sym (append_assoc word (fields l s) t)

-- a choice of a line or nothing in front of s
pub cond_append : (b : Bool) (a s : List ℕ) → cond b (a ++ s) s ≡ cond b a [] ++ s
cond_append true a s = refl
cond_append false a s = refl
