-- `unpark_lines::Reader::word` meets its contract: what `strip_prefix` leaves is what is behind the word. Assumes nothing.
use Rattle.std.proofs.Common.{ap, ◌∙◌, rules}
use Rattle.rules.specs.Texts.{expect_all}
use Rattle.unpark_lines.proofs.Words.{word_read, no_word}
use Rattle.unpark_lines.proofs.Reader.word.Goals as goal

pub returns-in_err-self-inside : goal.returns-in_err-self-inside
returns-in_err-self-inside c =
    let e = no_word c.self.inside.rest.now c.args.word.now c.strip_prefix.result c.strip_prefix.ensures.cases c.in_err-self-inside.was ∙ ap (expect_all c.args.word.now) c.self.view_is in
    search rules

pub returns : goal.returns
returns c =
    word_read c.self.inside.rest.now c.args.word.now c.strip_prefix.result c.strip_prefix.ensures.cases c.in_ok-self-inside.field-0 c.in_ok-self-inside.was
    ∙ ap (expect_all c.args.word.now) c.self.view_is
