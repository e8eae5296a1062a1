-- `pages_step::next` meets its contract. Assumes nothing.
use borrow.Author.Rules.{rules}
use Rattle.std.proofs.lemmas.Result.{err_from_is_err_and}
use Rattle.pages_step.proofs.Holding.{stepped, step_refused}
use Rattle.pages_step.proofs.next.Goals as goal

pub returns-in_err-o : goal.returns-in_err-o
returns-in_err-o c =
    let p = err_from_is_err_and c.from_residual.result c.from_residual.ensures.1 in
    rw (p.1, p.2) (step_refused _ (rw c.in_err-o.was at c.run.ensures.0), c.run.ensures.1)

pub returns : goal.returns
returns c = (stepped (rw c.in_ok-o.was at c.run.ensures.0) (search rules) c.leaves_page-paged.ensures (search rules) (search rules), c.run.ensures.1)
