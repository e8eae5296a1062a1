-- Runs one after the other, whatever they find, do the items of the trace. Assumes nothing.
use mathlib.Core.Path.{◌≡◌, refl, ap, sym, ◌∙◌}
use mathlib.Core.Bool.{true, false, ◌&&◌}
use mathlib.Core.List.{List, []}
use Prim.Native.Nat.{ℕ, zero, suc, ◌+◌, ◌-◌, ◌≤◌, ◌<◌}
use native.Mathlib.Omega.{arith}
use lib.Dec.{ltb}
use lib.ListN.{length, take, drop}
use borrow.Author.Tests.{le-ltb}
use Rattle.common.specs.Lists.{is_nil}
use Rattle.common.proofs.Choices.{choice, choice_by}
use Rattle.rules.specs.declared.Measure.{Measure}
use Rattle.rules.specs.declared.State.{State}
use Rattle.rules.specs.Given.{Ran, Carried}
use Rattle.run.proofs.Carried.{run_carried}
use Rattle.rules.specs.Measure.{allowed, measure_of, page_bytes, longest_stream}
use Rattle.rules.specs.States.{afresh}
use Rattle.rules.specs.Sound.{sound}
use Rattle.rules.specs.Findings.{is_clean}
use Rattle.rules.specs.Acts.{world, show_all, step, over}
use Rattle.rules.specs.Run.{Outcome, halted, run_from, readied, run, answer, Trace, trace_of, trace, enough, whole_stream}
use Rattle.theorems.specs.Facts.{Shaped}
use Rattle.theorems.specs.Statements.{RunPromise}
use Rattle.theorems.proofs.Reading.{left}
use Rattle.theorems.proofs.Measures.{allowed_gives}
use Rattle.theorems.proofs.Lengths.{fresh_shaped}
use Rattle.theorems.proofs.Sound.{state_test, trace_sound, afresh_sound}
use Rattle.theorems.proofs.Streams.{to_end, all_over}
use Rattle.theorems.proofs.Jobs.{split, same_end}
use Rattle.theorems.proofs.Runs.{Follows, follows, does_one, run_shaped}
use Rattle.theorems.proofs.Theorems.{afresh_is_sound, calls_keep_sound, calls_keep_place_and_page}
use Rattle.park_run.specs.Jobs.{state_after, ToTheEnd, StateIsSound}

module _ (g : Measure) where
  -- a run does at most the items that are allowed
  run_few : (n : ℕ) (t : State) (p s : List ℕ) (at done : ℕ) → (run_from g n done at t p s).ran.done ≤ done + n
  unfolding run_from
  run_few zero t p s at done = omega arith
  run_few (suc n) t p s at done =
      let S = step g t s in
      let W = show_all g S.done.acts (world t.core p []) in
      let Few : Outcome → Type 0 = λ o. o.ran.done ≤ done + suc n in
      choice Few (over t s) {a = halted t at done p} (omega arith)
      (choice Few (is_clean S.done.finding && is_nil W.handed)
      (let h = run_few n S.state W.page S.rest (at + S.done.took) (done + 1) in omega arith)
      (omega arith))

  -- a run that did nothing was allowed nothing, or nothing is left of the stream: it is where all items would have led
  stays : (n : ℕ) (t : State) (at : ℕ) (p stream : List ℕ) → (run g n t at p stream).ran.done ≡ 0 → (trace g n t (drop at stream)).state ≡ t
  unfolding trace run
  stays zero t at p stream z = refl
  stays (suc k) t at p stream z = choice_by (λ (r : Trace). r.state ≡ t) (over t (drop at stream)) {a = trace_of [] t (drop at stream)} (λ e. refl)
      (λ e. let h = does_one g k t (readied g (suc k) t p (drop at stream)) (drop at stream) at 0 e in absurd (omega arith))

  module _ (n : ℕ) (t : State) (at : ℕ) (p stream : List ℕ) where
    abbrev O : Ran
    O = (run g n t at p stream).ran

    -- a run is its items of the trace
    goes : Follows g t (readied g n t p (drop at stream)) (drop at stream) at 0 (run g n t at p stream)
    unfolding run
    goes = follows g n t (readied g n t p (drop at stream)) (drop at stream) at 0

    -- as many as are allowed, or fewer
    pub few : O.done ≤ n
    unfolding run
    few = let h = run_few n t (readied g n t p (drop at stream)) (drop at stream) at 0 in omega arith

    -- behind it the items that are still allowed lead to where all would have led
    pub onward : (trace g (n - O.done) O.state (drop O.place stream)).state ≡ (trace g n t (drop at stream)).state
    onward =
        let f = goes in
        let k : O.done ≡ f.items = f.count ∙ omega arith in
        let e : f.items + (n - O.done) ≡ n = let l = few in omega arith in
        let c = split g f.items (n - O.done) t (drop at stream) in
        sym (ap (λ (m : ℕ). (trace g m t (drop at stream)).state) (sym e) ∙ ap (λ (r : Trace). r.state) c ∙ rw (f.state, f.rest stream refl))

    -- and where it did nothing it is there
    pub ended : O.done ≡ 0 → O.state ≡ (trace g n t (drop at stream)).state
    unfolding trace
    ended z =
        let f = goes in
        let k : f.items ≡ 0 = let c = f.count in omega arith in
        let e : t ≡ O.state = rw k at f.state in
        sym e ∙ sym (stays n t at p stream z)

module _ (W H : ℕ) where
  -- what holds before each run: it will not be refused, and with the items that are still allowed it is the state asked for
  pub record Doing (s first page : List ℕ) (items : ℕ) (t : State) (place more : ℕ) : Type 0 where
    pub kept : length page ≡ length first
    pub beyond : drop (page_bytes (measure_of W H)) page ≡ drop (page_bytes (measure_of W H)) first
    pub sound : sound (measure_of W H) t ≡ true
    pub shaped : Shaped t.core
    pub placed : place ≤ length s
    pub state : (trace (measure_of W H) more t (drop place s)).state ≡ state_after (measure_of W H) items s

  module _ (allow : allowed W H ≡ true) where
    -- nothing is done yet
    doing_fresh : (s page : List ℕ) (items : ℕ) → Doing s page page items (afresh (measure_of W H)) 0 items
    unfolding state_after afresh
    doing_fresh s page items = record {
      kept = refl;
      beyond = refl;
      sound = afresh_is_sound W H allow;
      shaped = fresh_shaped (measure_of W H);
      placed = omega arith;
      state = refl;
    }

    pub doing_start : (s page : List ℕ) (items : ℕ) (t : State) → t ≡ afresh (measure_of W H) → Doing s page page items t 0 items
    doing_start s page items t e = rw e (doing_fresh s page items)

    module _ {s first page : List ℕ} {items : ℕ} {t : State} {place more : ℕ} (inv : Doing s first page items t place more) (roomy : page_bytes (measure_of W H) ≤ length first)
        (long : length s ≤ longest_stream) {o : Ran} {page' : List ℕ} (promise : RunPromise W H page s t place more o page') where
      -- what the call gave is a run of the rules
      call : o ≡ (run (measure_of W H) more t place (take (page_bytes (measure_of W H)) page) s).ran
      unfolding answer
      call =
          let n : ltb (length page) (page_bytes (measure_of W H)) ≡ false = le-ltb (length page) (page_bytes (measure_of W H)) (let k = inv.kept in omega arith) in
          let m : ltb longest_stream (length s) ≡ false = le-ltb longest_stream (length s) long in
          let q : ltb (length s) place ≡ false = le-ltb (length s) place inv.placed in
          promise.given ∙ rw (allow, n, m, inv.sound, q)

      -- which is never refused
      pub doing_carried : o.verdict ≡ Carried
      doing_carried = rw call (run_carried (measure_of W H) more t place (take (page_bytes (measure_of W H)) page) s)

      -- it did no more than was allowed
      pub doing_few : o.done ≤ more
      doing_few = rw call (few (measure_of W H) more t place (take (page_bytes (measure_of W H)) page) s)

      -- so fewer are allowed behind it, where it did something
      pub doing_less : (o.done ≡ 0 → ⊥) → more - o.done < more
      doing_less z = let h = doing_few in omega (arith, z)

      -- the bytes behind the page are as they were
      pub doing_beyond : drop (page_bytes (measure_of W H)) page' ≡ drop (page_bytes (measure_of W H)) first
      doing_beyond = rw promise.lent ((calls_keep_place_and_page W H page s t place more).beyond ∙ inv.beyond)

      -- and the next may follow
      pub doing_again : length page' ≡ length page → Doing s first page' items o.state o.place (more - o.done)
      doing_again e = record {
        kept = e ∙ inv.kept;
        beyond = doing_beyond;
        sound = rw promise.given (calls_keep_sound W H page s t place more allow inv.shaped inv.sound);
        shaped = rw call (run_shaped (measure_of W H) (allowed_gives W H allow).fits.wide more t place (take (page_bytes (measure_of W H)) page) s inv.shaped);
        placed = rw promise.given ((calls_keep_place_and_page W H page s t place more).inside inv.placed);
        state = rw call (onward (measure_of W H) more t place (take (page_bytes (measure_of W H)) page) s) ∙ inv.state;
      }

      -- a run that did nothing leaves the state asked for
      pub doing_end : o.done ≡ 0 → o.state ≡ state_after (measure_of W H) items s
      doing_end z = rw call (ended (measure_of W H) more t place (take (page_bytes (measure_of W H)) page) s (rw call at z)) ∙ inv.state

-- with as many items allowed as the stream can have it is the state at its end
pub to_the_end : ToTheEnd
unfolding state_after whole_stream left afresh
to_the_end g n s h = ap (λ (r : Trace). r.state) (same_end g n (enough s) (afresh g) s (to_end g n (afresh g) s (omega arith)) (all_over g s))

-- the state is sound
pub state_is_sound : StateIsSound
unfolding state_after afresh
state_is_sound W H n s a =
    let g = measure_of W H in
    let f = (allowed_gives W H a).fits in
    state_test g (state_after g n s) (trace_sound g f n (afresh g) s (fresh_shaped g) (afresh_sound g f))
