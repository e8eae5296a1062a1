-- `park_run::park_job` meets its contract. Assumes nothing.
use Rattle.std.proofs.Common.{◌≤◌, length, rules}
use Rattle.rules.specs.Measure.{page_bytes}
use Rattle.run.proofs.Answers.{page_there}
use Rattle.park_run.proofs.Answers.{parked}
use Rattle.park_run.proofs.park_job.Goals as goal

pub state_after-t-requires : goal.state_after-t-requires
state_after-t-requires c =
    let k = page_there c.args.w c.args.h c.page_of.result c.page_of.ensures c.in_ok-g.g (rw c.in_ok-g.was at c.ok_or.ensures.ok_part) in
    let b : page_bytes c.in_ok-g.g ≤ length c.args.page.now = search rules in
    record { h_value = k.allows; h_in_bounds = rw k.is at b; s_len_bound = search rules }

pub returns : goal.returns
returns c =
    let k = page_there c.args.w c.args.h c.page_of.result c.page_of.ensures c.in_ok-g.g (rw c.in_ok-g.was at c.ok_or.ensures.ok_part) in
    let b : page_bytes c.in_ok-g.g ≤ length c.args.page.now = search rules in
    parked c.args.w c.args.h c.args.page.now c.args.s.now c.args.items c.args.room.now _ k.allows (rw k.is at b) (search rules) c.state_after-t.result _ _ c.state_after-t.ensures
    c.park.ensures
