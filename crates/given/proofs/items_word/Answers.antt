-- `given::items_word` meets its contract. Assumes nothing.
use borrow.Author.Rules.{rules}
use Rattle.number_word.specs.Words.{items_word}
use Rattle.given.proofs.Words.{spelt_by}
use Rattle.given.proofs.items_word.Goals as goal

pub returns : goal.returns
returns g c = spelt_by items_word (λ w n p. search rules) c.word_read.ensures
