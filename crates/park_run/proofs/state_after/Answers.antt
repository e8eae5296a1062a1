-- `park_run::state_after` meets its contract. The invariant: with the items that are still allowed it is the state asked for; the measure: those items.
-- Assumes nothing.
use borrow.Author.Rules.{rules}
use Rattle.run.proofs.Ready.{none_known}
use Rattle.run.proofs.Carried.{is_carried}
use Rattle.park_run.proofs.Runs.{doing_start, doing_carried, doing_few, doing_less, doing_beyond, doing_again, doing_end}
use Rattle.park_run.proofs.state_after.Goals as goal

pub loop-o-init : goal.loop-o-init
loop-o-init c = search (doing_start, none_known, rules)

pub unwrap-o-requires : goal.unwrap-o-requires
unwrap-o-requires c =
    let pre = c.requires in
    is_carried _ _ c.run.result (doing_carried _ _ pre.h_value c.loop-o.invariant.0 pre.h_in_bounds pre.s_len_bound c.run.ensures.0)

pub returns-then-o-eq0 : goal.returns-then-o-eq0
returns-then-o-eq0 c =
    let pre = c.requires in
    let inv = c.loop-o.invariant.0 in
    let p = rw c.unwrap-o.ensures at c.run.ensures.0 in
    (doing_end _ _ pre.h_value inv pre.h_in_bounds pre.s_len_bound p c.if-o-eq0.true, doing_beyond _ _ pre.h_value inv pre.h_in_bounds pre.s_len_bound p)

pub overflow_sub-more : goal.overflow_sub-more
overflow_sub-more c =
    let pre = c.requires in
    let p = rw c.unwrap-o.ensures at c.run.ensures.0 in
    doing_few _ _ pre.h_value c.loop-o.invariant.0 pre.h_in_bounds pre.s_len_bound p

pub loop-o-smaller : goal.loop-o-smaller
loop-o-smaller c =
    let pre = c.requires in
    let p = rw c.unwrap-o.ensures at c.run.ensures.0 in
    doing_less _ _ pre.h_value c.loop-o.invariant.0 pre.h_in_bounds pre.s_len_bound p c.if-o-eq0.false

pub loop-o-preserved : goal.loop-o-preserved
loop-o-preserved c =
    let pre = c.requires in
    let p = rw c.unwrap-o.ensures at c.run.ensures.0 in
    (doing_again _ _ pre.h_value c.loop-o.invariant.0 pre.h_in_bounds pre.s_len_bound p c.run.auto.page, c.run.ensures.1)
