-- Items that change nothing that an item's meaning looks at: the cursor, and whether the page is used.
use Rattle.std.specs.Prelude.{Bool, true, false}
use Rattle.rules.specs.declared.Command.TheVariants.{Valued, Method, Print, Row, Unknown}
use Rattle.rules.specs.Items.{Item, text, code, two, command, broken}

-- text, codes, commands that are not known, and broken pieces
abbrev pub stays : Item → Bool
stays (text b) = true
stays (code b) = true
stays (two b) = false
stays (command (Valued k v) p) = false
stays (command (Method v) p) = false
stays (command (Print v) p) = false
stays (command (Row v) p) = false
stays (command Unknown p) = true
stays (broken f) = true
