-- The lines of an item, and of the items behind it. Assumes nothing.
use mathlib.Core.Path.{◌≡◌, refl, ap, ◌∙◌}
use Prim.Native.Nat.{ℕ, ◌+◌, ◌*◌, ◌≤◌}
use native.Mathlib.Nat.{add-zero, zero-add}
use native.Mathlib.Numerals.{add-one}
use native.Mathlib.Omega.{arith}
use mathlib.Core.List.{List, [], ◌∷◌}
use mathlib.Core.Bool.{Bool, true, false, cond}
use lib.ListN.{length}
use Rattle.common.specs.Lists.{is_nil}
use Rattle.rules.specs.declared.Measure.{Measure}
use Rattle.rules.specs.declared.Sequence.{Sequence}
use Rattle.rules.specs.declared.Sequence.TheVariants.{Closed, Open}
use Rattle.rules.specs.declared.State.{State}
use Rattle.rules.specs.Measure.{blank}
use Rattle.rules.specs.States.{afresh}
use Rattle.rules.specs.Acts.{World, world, show_all, next_all, Done, Step, step, over}
use Rattle.rules.specs.Run.{page_of, Trace, trace, enough, whole_stream}
use Rattle.rules.specs.Report.{page_lines, faults, last_lines, item_lines, Saying, counted, stream_lines, told}
use Rattle.theorems.proofs.Reading.{left}
use Rattle.theorems.proofs.Streams.{step_left, to_end}
use Rattle.theorems.proofs.Pages.{step_single, after_item, item_pages, show_all-core}
use Rattle.theorems.proofs.Jobs.{same_end}
use Rattle.report_laws.specs.Left.{lines_left}

-- what is left is less than enough
pub left_enough : (q : Sequence) (s : List ℕ) → left q s ≤ enough s
unfolding left
left_enough Closed s = omega arith
left_enough (Open f g) s = omega arith

module _ (say : Saying) (g : Measure) where
  -- pages handed over before do not matter to what is printed
  lines_world : (l : List Done) (at number : ℕ) (w : World) (n : ℕ) → item_lines say g l at number w n ≡ item_lines say g l at number (world w.core w.page []) n
  unfolding item_lines
  lines_world [] at number w n = refl
  lines_world (i ∷ l) at number w n = refl

  -- the lines of a whole stream are those that are left at its start
  pub left_whole : (s : List ℕ) → lines_left say g (afresh g) s 0 1 (blank g) 0 ≡ stream_lines say g s
  unfolding lines_left stream_lines whole_stream afresh
  left_whole s = rw (zero-add (faults (trace g (enough s) (afresh g) s).items))

  -- at its end a stream has the last lines alone
  pub left_over : (t : State) (s : List ℕ) (at number : ℕ) (p : List ℕ) (n : ℕ) → over t s ≡ true → lines_left say g t s at number p n ≡ last_lines number (world t.core p []) n
  unfolding lines_left item_lines trace faults
  left_over t s at number p n e = ap (λ k. go k) (add-one (2 * length s)) ∙ rw (e, add-zero)
    where
      go : ℕ → List ℕ
      go k = item_lines say g (trace g k t s).items at number (world t.core p []) (n + faults (trace g k t s).items)

module _ (g : Measure) where
  module _ (t : State) (s : List ℕ) (e : over t s ≡ false) where
    abbrev S : Step
    S = step g t s

    -- the items of s are its first and those behind it
    items_step : (trace g (enough s) t s).items ≡ S.done ∷ (trace g (enough S.rest) S.state S.rest).items
    unfolding trace
    items_step =
        ap (λ k. (trace g k t s).items) (add-one (2 * length s))
        ∙ rw e
        (ap (λ (r : Trace). S.done ∷ r.items)
        (same_end g (2 * length s) (enough S.rest) S.state S.rest
        (to_end g (2 * length s) S.state S.rest (let l = step_left g t s e in let k = left_enough t.sequence s in omega arith))
        (to_end g (enough S.rest) S.state S.rest (left_enough S.state.sequence S.rest))))

    -- the core goes its way whatever the page is
    pub core_next : next_all g S.done.acts t.core ≡ S.state.core
    unfolding step
    core_next = refl

    pub core_is : (p : List ℕ) → (show_all g S.done.acts (world t.core p [])).core ≡ S.state.core
    core_is p = show_all-core g S.done.acts (world t.core p []) ∙ core_next

    -- the lines of s are those of its first item, and those of the items behind it
    pub left_step : (say : Saying) (at number : ℕ) (p : List ℕ) (n : ℕ) (q : List ℕ) (ds : List (List ℕ)) → show_all g S.done.acts (world t.core p []) ≡ world S.state.core q ds
        → lines_left say g t s at number p n
        ≡ told say t.core.at at S.done.finding (page_lines number ds (lines_left say g S.state S.rest (at + S.done.took) (number + length ds) q (n + counted S.done.finding)))
    unfolding lines_left item_lines faults
    left_step say at number p n q ds h =
        ap (λ (l : List Done). item_lines say g l at number (world t.core p []) (n + faults l)) items_step
        ∙ ap (λ (v : World). told say t.core.at at S.done.finding (page_lines number v.handed (item_lines say g rest (at + S.done.took) (number + length v.handed) v (n + (counted S.done.finding + faults rest))))) h
        ∙ ap (λ x. told say t.core.at at S.done.finding (page_lines number ds x))
        (lines_world say g rest (at + S.done.took) (number + length ds) (world S.state.core q ds) (n + (counted S.done.finding + faults rest))
        ∙ ap (λ m. item_lines say g rest (at + S.done.took) (number + length ds) (world S.state.core q []) m) (omega arith))
      where
        rest : List Done
        rest = (trace g (enough S.rest) S.state S.rest).items

    -- the page that an item ends is the only one, and the next one is blank
    pub turned : (p : List ℕ) (ds : List (List ℕ)) → (show_all g S.done.acts (world t.core p [])).handed ≡ ds
        → show_all g S.done.acts (world t.core p [])
        ≡ world S.state.core (cond (is_nil ds) (show_all g S.done.acts (world t.core p [])).page (blank g)) (cond (is_nil ds) [] (page_of ds (show_all g S.done.acts (world t.core p [])).page ∷ []))
    unfolding after_item step
    turned p ds e =
        let w = show_all g S.done.acts (world t.core p []) in
        item_pages g S.done.acts t.core p [] (step_single g t s) ∙ rw e (go (is_nil ds) (page_of ds w.page) w.page)
      where
        go : (b : Bool) (q r : List ℕ) → cond b (world S.state.core r []) (world S.state.core (blank g) (q ∷ [])) ≡ world S.state.core (cond b r (blank g)) (cond b [] (q ∷ []))
        go true q r = refl
        go false q r = refl
