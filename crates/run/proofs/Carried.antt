-- A run of the rules is no refusal. Assumes nothing.
use mathlib.Core.Path.{◌≡◌, refl}
use Prim.Native.Nat.{ℕ, zero, suc, ◌+◌}
use native.Mathlib.Omega.{arith}
use mathlib.Core.Bool.{◌&&◌}
use mathlib.Core.List.{List, []}
use lib.ListN.{drop}
use Rattle.std.specs.Prelude.{Result, Ok, Err}
use Rattle.std.specs.Result.{IsOk}
use Rattle.common.specs.Lists.{is_nil}
use Rattle.common.proofs.Choices.{choice}
use Rattle.rules.specs.declared.Measure.{Measure}
use Rattle.rules.specs.declared.Progress.{Progress}
use Rattle.rules.specs.declared.Refusal.{Refusal}
use Rattle.rules.specs.declared.State.{State}
use Rattle.rules.specs.Given.{Carried}
use Rattle.rules.specs.Findings.{is_clean}
use Rattle.rules.specs.Acts.{world, show_all, step, over}
use Rattle.rules.specs.Run.{Outcome, run_from, readied, run, ran}

from_carried : (g : Measure) (n done at : ℕ) (t : State) (p s : List ℕ) → (run_from g n done at t p s).ran.verdict ≡ Carried
unfolding run_from
from_carried g zero done at t p s = refl
from_carried g (suc n) done at t p s =
    let d = step g t s in
    let w = show_all g d.done.acts (world t.core p []) in
    choice (λ (o : Outcome). o.ran.verdict ≡ Carried) (over t s) refl
    (choice (λ (o : Outcome). o.ran.verdict ≡ Carried) (is_clean d.done.finding && is_nil w.handed) (from_carried g n (done + 1) (at + d.done.took) d.state w.page d.rest) refl)

pub run_carried : (g : Measure) (n : ℕ) (t : State) (at : ℕ) (p s : List ℕ) → (run g n t at p s).ran.verdict ≡ Carried
unfolding run
run_carried g n t at p s = from_carried g n 0 at t (readied g n t p (drop at s)) (drop at s)

-- what a program gives of it is progress
pub is_carried : (t : State) (at : ℕ) (r : Result Progress Refusal) → (ran t at r).verdict ≡ Carried → IsOk r
is_carried t at (Ok o) e = refl
is_carried t at (Err why) e = absurd (let z : ◌≡◌ {A = ℕ} 0 1 = cc in omega arith)
