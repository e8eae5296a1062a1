-- A call of run on the report's page: it is not refused, and it is a run of the rules. Assumes nothing.
use mathlib.Core.Path.{◌≡◌}
use Prim.Native.Nat.{ℕ, ◌≤◌}
use native.Mathlib.Omega.{arith}
use mathlib.Core.List.{List, append-nil}
use mathlib.Core.Bool.{true, false}
use lib.ListN.{length, drop, drop_of_length-le}
use lib.Seq.{take_all}
use lib.Dec.{ltb}
use borrow.Author.Tests.{le-ltb}
use Rattle.rules.specs.declared.Measure.{Measure}
use Rattle.rules.specs.declared.State.{State}
use Rattle.rules.specs.Measure.{allowed, measure_of, page_bytes, longest_stream}
use Rattle.rules.specs.Sound.{sound}
use Rattle.rules.specs.Run.{readied, run, answer}
use Rattle.theorems.specs.Facts.{Fits, Shaped}
use Rattle.theorems.proofs.Sound.{state_facts, state_test, run_sound}

module _ (W H : ℕ) (buffer stream : List ℕ) (t : State) (at : ℕ) (a : allowed W H ≡ true) (b : length buffer ≡ page_bytes (measure_of W H)) (l : length stream ≤ longest_stream)
    (s : sound (measure_of W H) t ≡ true) (p : at ≤ length stream) where
  -- a call with a page of just its bytes is a run of the rules
  pub carried : (k : ℕ) → answer W H buffer stream t at k ≡ run (measure_of W H) k t at buffer stream
  unfolding answer
  carried k =
      let n : ltb (length buffer) (page_bytes (measure_of W H)) ≡ false = le-ltb (length buffer) (page_bytes (measure_of W H)) (omega arith) in
      let m : ltb longest_stream (length stream) ≡ false = le-ltb longest_stream (length stream) l in
      let o : ltb (length stream) at ≡ false = le-ltb (length stream) at p in
      rw (a, n, m, s, o, take_all (page_bytes (measure_of W H)) buffer (omega arith), drop_of_length-le buffer {i = page_bytes (measure_of W H)} (omega arith), append-nil)

-- a run keeps a state sound
pub run_kept : (g : Measure) → Fits g → (k : ℕ) (t : State) (at : ℕ) (p stream : List ℕ) → Shaped t.core → sound g t ≡ true → sound g (run g k t at p stream).ran.state ≡ true
unfolding run
run_kept g fit k t at p stream h s =
    state_test g (run g k t at p stream).ran.state (run_sound g fit k 0 at t (readied g k t p (drop at stream)) (drop at stream) h (state_facts g t s))
