-- `run::run_page` meets its contract. Assumes nothing.
use Rattle.run.proofs.Ready.{run_ready, known_ready}
use borrow.Author.Rules.{rules}
use Rattle.run.proofs.run_page.Goals as goal

pub returns : goal.returns
returns c = search (run_ready, known_ready, rules)
