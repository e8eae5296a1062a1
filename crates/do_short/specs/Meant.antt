-- What a byte names, and which item is a command with a letter.
use Rattle.std.specs.Prelude.{Bool, true, false, cond, Option, Some, None, ℕ, eqb}
use Rattle.rules.specs.declared.Code.{Code}
use Rattle.rules.specs.declared.Code.TheVariants.{CarriageReturn, LineFeed, FormFeed, Backspace, Tab}
use Rattle.rules.specs.declared.Escape.{Escape}
use Rattle.rules.specs.declared.Escape.TheVariants.{Reset, ClearMargins, HalfLine}
use Rattle.rules.specs.Codes.{code_byte, escape_byte}
use Rattle.read_item.specs.declared.Item.{Item}
use Rattle.read_item.specs.declared.Item.TheVariants as found

-- the code that a byte is, if it is one that does something
abbrev pub code_of : ℕ → Option Code
code_of b =
    cond (eqb b (code_byte CarriageReturn)) (Some CarriageReturn)
    (cond (eqb b (code_byte LineFeed)) (Some LineFeed)
    (cond (eqb b (code_byte FormFeed)) (Some FormFeed)
    (cond (eqb b (code_byte Backspace)) (Some Backspace)
    (cond (eqb b (code_byte Tab)) (Some Tab) None))))

-- the two-byte command that a byte names, if it is carried
abbrev pub escape_of : ℕ → Option Escape
escape_of b =
    cond (eqb b (escape_byte Reset)) (Some Reset)
    (cond (eqb b (escape_byte ClearMargins)) (Some ClearMargins)
    (cond (eqb b (escape_byte HalfLine)) (Some HalfLine) None))

-- a command has its payload and is done elsewhere
abbrev pub is_command : Item → Bool
is_command (found.Text b) = false
is_command (found.Code b) = false
is_command (found.Two b) = false
is_command (found.Command k from to) = true
is_command (found.Broken f) = false
