-- `plain_say::say_plain` meets its contract. Assumes nothing.
use Rattle.plain_say.proofs.Spoken.{plain_said}
use borrow.Author.Rules.{rules}
use Rattle.plain_say.proofs.say_plain.Goals as goal

pub returns : goal.returns
returns c = search (plain_said, rules)
