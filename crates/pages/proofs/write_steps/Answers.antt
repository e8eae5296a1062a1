-- `pages::write_steps` is safe and ends, and meets no refused step. Assumes nothing.
use Rattle.run.proofs.Ready.{none_known}
use Rattle.pages_step.proofs.Stepping.{stepping_start, stepping_small, stepping_ok, stepping_less, stepping_again}
use Rattle.pages.proofs.write_steps.Goals as goal

pub loop-state-init : goal.loop-state-init
loop-state-init g c = record {
  stepping = stepping_start _ _ _ _ _ _ c.requires.h_value c.requires.page_len c.requires.longest_lines_in_bounds c.afresh_on-state.ensures;
  zero = none_known _;
}

pub next-r-requires : goal.next-r-requires
next-r-requires g c =
    let small = stepping_small c.loop-state.invariant.stepping c.requires.h_value c.requires.s_len_bound in
    (small.0, small.1, small.2, c.loop-state.invariant.zero)

pub unwrap-step-requires : goal.unwrap-step-requires
unwrap-step-requires g c = stepping_ok c.loop-state.invariant.stepping c.requires.h_value c.requires.s_len_bound _ c.next-r.ensures.0

pub loop-state-smaller : goal.loop-state-smaller
loop-state-smaller g c =
    let p = rw c.unwrap-step.ensures at c.next-r.ensures.0 in
    stepping_less c.loop-state.invariant.stepping c.requires.h_value c.requires.s_len_bound p c.if-step.false

pub loop-state-preserved : goal.loop-state-preserved
loop-state-preserved g c =
    let p = rw c.unwrap-step.ensures at c.next-r.ensures.0 in
    record {
      stepping = stepping_again c.loop-state.invariant.stepping c.requires.h_value c.requires.s_len_bound p c.if-step.false c.next-r.auto.room;
      zero = c.next-r.ensures.1;
    }
