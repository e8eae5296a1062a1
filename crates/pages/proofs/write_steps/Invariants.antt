-- `pages::write_steps` ends. The invariant: the next step may follow; the measure: what is left to read. Assumes nothing.
use Rattle.std.proofs.Common.{drop}
use Rattle.theorems.proofs.Reading.{left}
use Rattle.dot_page.specs.Zeros.{FirstZero}
use Rattle.pages_step.proofs.Stepping.{Stepping}
use Rattle.pages.proofs.write_steps.Given as goal

abbrev pub invariant-loop-state : goal.invariant-loop-state
invariant-loop-state g l = record {
  stepping : Stepping l.fn.w l.fn.h l.fn.s l.page l.initial.room l.room l.state l.place l.number l.findings;
  zero : FirstZero l.zeros l.page;
}

abbrev pub decreases-loop-state : goal.decreases-loop-state
decreases-loop-state g l = left l.state.sequence (drop l.place l.fn.s)
