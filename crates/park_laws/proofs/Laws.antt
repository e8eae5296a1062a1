-- The laws of a form's data: its members say all of what is parked that its text does not say otherwise, and each says what it was set to. Assumes nothing.
use mathlib.Core.Path.{◌≡◌, refl, ap, sym}
use Prim.Native.Nat.{ℕ, zero, suc}
use native.Mathlib.Omega.{arith}
use mathlib.Core.List.{List, []}
use mathlib.Core.Bool.{Bool, true, false}
use lib.Dec.{eqb, leb}
use borrow.Author.Tests.{leb-true}
use Rattle.common.specs.Choice.{flagged}
use Rattle.rules.specs.declared.Spot.{Spot}
use Rattle.rules.specs.declared.Sequence.TheVariants.{Closed}
use Rattle.rules.specs.States.{state_of}
use Rattle.rules.specs.Forms.{Parked, parked_of, Form, flags_of, JOB}
use Rattle.rules.specs.Park.{give_out, of_numbers, row_bytes, depth_of}
use Rattle.park_laws.specs.Facts.{Each, none, each, Fit, end, fit, TenDigits}

-- what is read of numbers that fit
pub record Taken (f : Form) (ns : List ℕ) (stack : List Spot) (seed : List ℕ) : Type 0 where
  pub out : give_out f.members (of_numbers f ns stack seed) ≡ ns
  pub stacked : (of_numbers f ns stack seed).state.core.stack ≡ stack
  pub seeded : (of_numbers f ns stack seed).state.core.seed ≡ seed
  pub closed : (of_numbers f ns stack seed).state.sequence ≡ Closed
  pub depth : depth_of (of_numbers f ns stack seed) ≡ depth_of (of_numbers f ns [] [])
  pub wide : row_bytes (of_numbers f ns stack seed) ≡ row_bytes (of_numbers f ns [] [])

-- each member has at most ten digits
pub record Small (j : Parked) : Type 0 where
  pub W : TenDigits j.W
  pub H : TenDigits j.H
  pub x : TenDigits j.state.core.at.x
  pub y : TenDigits j.state.core.at.y
  pub L : TenDigits j.state.core.layout.left
  pub R : TenDigits j.state.core.layout.right
  pub T : TenDigits j.state.core.layout.top
  pub hmi : TenDigits j.state.core.layout.hmi
  pub vmi : TenDigits j.state.core.layout.vmi
  pub termination : TenDigits j.state.core.layout.termination
  pub resolution : TenDigits j.state.core.raster.resolution
  pub method : TenDigits j.state.beside.method
  pub started : TenDigits (flagged j.state.core.raster.started)
  pub margin : TenDigits j.state.core.raster.margin
  pub used : TenDigits (flagged j.state.core.used)
  pub depth : TenDigits j.state.core.depth

pub record Lawful (f : Form) : Type 0 where
  pub back : (j : Parked) → j.state.sequence ≡ Closed → of_numbers f (give_out f.members j) j.state.core.stack j.state.core.seed ≡ j
  pub fits : (j : Parked) → Fit (flags_of f.members) (give_out f.members j)
  pub small : (j : Parked) → Small j → Each TenDigits (give_out f.members j)
  pub taken : (ns : List ℕ) (stack : List Spot) (seed : List ℕ) → Fit (flags_of f.members) ns → Taken f ns stack seed

-- ---- flags
flag_back : (t : Bool) → eqb (flagged t) 1 ≡ t
flag_back true = refl
flag_back false = refl

flag_fits : (t : Bool) → leb (flagged t) 1 ≡ true
flag_fits true = refl
flag_fits false = refl

-- a flag's number, read and written
flag_out : (n : ℕ) → leb n 1 ≡ true → flagged (eqb n 1) ≡ n
flag_out zero e = refl
flag_out (suc zero) e = refl
flag_out (suc (suc n)) e = absurd (omega (arith, leb-true (suc (suc n)) 1 e))

-- ---- JOB
job_fits : (j : Parked) → Fit (flags_of JOB.members) (give_out JOB.members j)
job_fits j = fit refl (fit refl (fit refl (fit refl (fit refl (fit refl (fit refl (fit refl (fit refl (fit refl (fit refl (fit refl (fit (flag_fits j.state.core.raster.started) (fit refl (fit (flag_fits j.state.core.used) (fit refl end)))))))))))))))

job_small : (j : Parked) → Small j → Each TenDigits (give_out JOB.members j)
job_small j s = each s.W (each s.H (each s.x (each s.y (each s.L (each s.R (each s.T (each s.hmi (each s.vmi (each s.termination (each s.resolution (each s.method (each s.started (each s.margin (each s.used (each s.depth none)))))))))))))))

job_taken : (ns : List ℕ) (stack : List Spot) (seed : List ℕ) → Fit (flags_of JOB.members) ns → Taken JOB ns stack seed
job_taken ns stack seed (fit _ (fit _ (fit _ (fit _ (fit _ (fit _ (fit _ (fit _ (fit _ (fit _ (fit _ (fit _ (fit {n = n-started} started (fit _ (fit {n = n-used} used (fit _ end)))))))))))))))) = record {
  out = rw (flag_out n-started started, flag_out n-used used);
  stacked = refl;
  seeded = refl;
  closed = refl;
  depth = refl;
  wide = refl;
}

job_back : (j : Parked) → j.state.sequence ≡ Closed → of_numbers JOB (give_out JOB.members j) j.state.core.stack j.state.core.seed ≡ j
job_back j e = rw (flag_back j.state.core.raster.started, flag_back j.state.core.used)
    (ap (λ q. parked_of j.W j.H (state_of j.state.core j.state.beside q)) (sym e))

pub job_lawful : Lawful JOB
job_lawful = record { back = job_back; fits = job_fits; small = job_small; taken = job_taken }
