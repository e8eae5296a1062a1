-- `do_short::do_bytes` meets its contract. Assumes nothing.
use Rattle.do_short.proofs.Short.{bytes_told, bytes_broken}
use Rattle.rules.specs.Acts.{mean}
use Rattle.do_short.proofs.do_bytes.Goals as goal

pub returns-in-Text : goal.returns-in-Text
unfolding mean
returns-in-Text c = λ s. bytes_told _ _ _ _ _ _ _ _ s c.in-Text.is (c.do_text.ensures _)

pub returns-in-Code : goal.returns-in-Code
unfolding mean
returns-in-Code c = λ s. bytes_told _ _ _ _ _ _ _ _ s c.in-Code.is (c.do_code_byte.ensures _)

pub returns-in-Two : goal.returns-in-Two
unfolding mean
returns-in-Two c = λ s. bytes_told _ _ _ _ _ _ _ _ s c.in-Two.is c.do_escape_byte.ensures

pub returns-in-Broken : goal.returns-in-Broken
returns-in-Broken c = bytes_broken _ _ _ _ _ _ _ c.in-Broken.is c.kept-in-Broken.ensures
