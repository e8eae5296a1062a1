-- `pages_step::write_lines` meets its contract. Assumes nothing.
use Rattle.pages_step.proofs.Holding.{step_told}
use Rattle.pages_step.proofs.write_lines.Goals as goal

pub returns : goal.returns
returns c = step_told _ _ c.args.o.now _ c.if-o-eq0.false c.write_marked.ensures c.write_page_if.ensures
