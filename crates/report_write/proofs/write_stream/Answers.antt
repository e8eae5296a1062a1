-- `report_write::write_stream` meets its contract. Assumes nothing.
use mathlib.Core.Path.{sym, ap, ◌∙◌}
use native.Mathlib.Omega.{arith}
use borrow.Author.Rules.{rules}
use Rattle.rules.specs.Run.{Outcome}
use Rattle.run.proofs.Carried.{run_carried, is_carried}
use Rattle.run.proofs.Ready.{none_known}
use Rattle.report_laws.proofs.Reporting.{page_allowed, call_ran, reporting_start, reporting_less, reporting_again, reporting_end}
use Rattle.report_write.proofs.write_stream.Goals as goal

pub afresh_on-state-requires : goal.afresh_on-state-requires
afresh_on-state-requires c = page_allowed

pub loop-o-init : goal.loop-o-init
loop-o-init c = record { reporting = reporting_start 640 800 page_allowed _ _ _ _ c.requires.page_len c.afresh_on-state.ensures; known = none_known _ }

pub unwrap-o-requires : goal.unwrap-o-requires
unwrap-o-requires c = is_carried _ _ _ (
    ap (λ (q : Outcome). q.ran.verdict) (sym (call_ran 640 800 page_allowed c.loop-o.invariant.reporting.going (omega (arith, c.requires.s_len_bound)) 131072 c.run-r.ensures.0))
    ∙ run_carried _ _ _ _ _ _)

pub returns-then-o-eq0 : goal.returns-then-o-eq0
returns-then-o-eq0 c =
    let p = rw c.unwrap-o.ensures at c.run-r.ensures.0 in
    reporting_end 640 800 page_allowed c.loop-o.invariant.reporting c.requires.s_len_bound 131072 p c.if-o-eq0.true c.write_last.ensures

pub loop-o-smaller : goal.loop-o-smaller
loop-o-smaller c =
    let p = rw c.unwrap-o.ensures at c.run-r.ensures.0 in
    reporting_less 640 800 page_allowed c.loop-o.invariant.reporting c.requires.s_len_bound 131072 p c.if-o-eq0.false

pub loop-o-preserved : goal.loop-o-preserved
loop-o-preserved c =
    let p = rw c.unwrap-o.ensures at c.run-r.ensures.0 in
    record {
      reporting = reporting_again 640 800 page_allowed c.loop-o.invariant.reporting c.requires.s_len_bound 131072 p c.if-o-eq0.false c.run-r.auto.page (search rules) c.count_of-findings.ensures.0 c.write_ran.ensures;
      known = c.run-r.ensures.1;
    }
