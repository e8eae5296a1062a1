-- Laws of the control bytes of all methods. Assumes nothing.
use mathlib.Core.Path.{◌≡◌, refl, ◌∙◌}
use mathlib.Core.Bool.{Bool, true, false, cond}
use Prim.Native.Nat.{ℕ, ◌+◌, ◌-◌, ◌/◌, ◌%◌, ◌≤◌, ◌<◌}
use native.Mathlib.Omega.{arith}
use lib.Dec.{eqb, ltb}
use borrow.Author.Tests.{lt-ltb, le-ltb, eq-eqb, ne_eqb}
use Rattle.common.proofs.Choices.{choice}
use Rattle.rules.specs.declared.Mode.{Mode}
use Rattle.rules.specs.declared.Mode.TheVariants.{Ready, Offset, Copy, Repeat}
use Rattle.rules.specs.Rows.{control1, control2, control3}
use Rattle.row_control.specs.Controls.{control_of, place}

-- a control byte never leads back in the row
abbrev pub Rising : (ℕ → ℕ → Mode) → Type 0
Rising by = (c at : ℕ) → at ≤ place (by c at)

rising2 : Rising control2
unfolding place
rising2 c at =
    choice (λ (m : Mode). at ≤ place m) (ltb c 128) (omega arith) (choice (λ (m : Mode). at ≤ place m) (eqb c 128) {a = Ready at} {b = Repeat (257 - c) at} (omega arith) (omega arith))

rising3 : Rising control3
unfolding place
rising3 c at = choice (λ (m : Mode). at ≤ place m) (eqb (c % 32) 31) {a = Offset (c / 32) (at + 31)} {b = Copy (c / 32) (at + c % 32)} (omega arith) (omega arith)

pub rising : (method : ℕ) → Rising (control_of method)
unfolding control_of place
rising method = choice Rising (eqb method 1) {a = control1} (λ c at. omega arith) (choice Rising (eqb method 2) rising2 rising3)

-- a mode with its place left out
unfoldable pub level : Mode → Mode
level (Ready at) = Ready 0
level (Offset n at) = Offset n 0
level (Copy n at) = Copy n 0
level (Repeat n at) = Repeat n 0

-- what a control byte means is, but for the place, the same at every place
abbrev pub Level : (ℕ → ℕ → Mode) → Type 0
Level by = (c a b : ℕ) → level (by c a) ≡ level (by c b)

-- two choices by one test are alike if their values are
pub level_cond : (t : Bool) (m n m' n' : Mode) → level m ≡ level m' → level n ≡ level n' → level (cond t m n) ≡ level (cond t m' n')
level_cond true m n m' n' p q = p
level_cond false m n m' n' p q = q

pub levelled : (method : ℕ) → Level (control_of method)
unfolding control_of level
levelled method =
    choice Level (eqb method 1) {a = control1} (λ c a b. refl)
    (choice Level (eqb method 2) {a = control2} {b = control3}
    (λ c a b. level_cond (ltb c 128) _ _ _ _ refl (level_cond (eqb c 128) _ _ _ _ refl refl))
    (λ c a b. level_cond (eqb (c % 32) 31) _ _ _ _ refl refl))

-- what each control byte means
module _ (method c at : ℕ) where
  pub pair_means : method ≡ 1 → control_of method c at ≡ Repeat (c + 1) at
  unfolding control_of
  pair_means h = rw (eq-eqb method 1 h)

  packed_means : method ≡ 2 → control_of method c at ≡ control2 c at
  unfolding control_of
  packed_means h = let g : method ≡ 1 → ⊥ = λ e. omega arith in rw (ne_eqb method 1 g, eq-eqb method 2 h)

  pub literal_means : method ≡ 2 → c < 128 → control_of method c at ≡ Copy c at
  literal_means h l = packed_means h ∙ rw (lt-ltb c 128 l)

  pub nothing_means : method ≡ 2 → c ≡ 128 → control_of method c at ≡ Ready at
  nothing_means h e = let l : 128 ≤ c = omega arith in packed_means h ∙ rw (le-ltb c 128 l, eq-eqb c 128 e)

  pub run_means : method ≡ 2 → 128 < c → control_of method c at ≡ Repeat (257 - c) at
  run_means h l =
      let g : 128 ≤ c = omega arith in
      let n : c ≡ 128 → ⊥ = λ e. omega arith in
      packed_means h ∙ rw (le-ltb c 128 g, ne_eqb c 128 n)

-- of method 3
module _ (c at : ℕ) where
  pub far_means : c % 32 ≡ 31 → control_of 3 c at ≡ Offset (c / 32) (at + 31)
  unfolding control_of
  far_means h = rw (eq-eqb (c % 32) 31 h)

  pub near_means : (c % 32 ≡ 31 → ⊥) → control_of 3 c at ≡ Copy (c / 32) (at + c % 32)
  unfolding control_of
  near_means h = rw (ne_eqb (c % 32) 31 h)
