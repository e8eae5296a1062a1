-- `given::measure_word` meets its contract. Assumes nothing.
use borrow.Author.Rules.{rules}
use Rattle.number_word.specs.Words.{measure_word}
use Rattle.given.proofs.Words.{spelt_by}
use Rattle.given.proofs.measure_word.Goals as goal

pub returns : goal.returns
returns g c = spelt_by measure_word (λ w n p. search rules) c.word_read.ensures
