-- The answers of the leaves by numbers.
use Rattle.std.specs.Prelude.{Bool, cond, ℕ, eqb}
use Rattle.rules.specs.declared.Value.{Value}
use Rattle.rules.specs.declared.Value.TheVariants.{Absolute, Relative}
use Rattle.rules.specs.declared.Kind.{Kind}
use Rattle.rules.specs.declared.Kind.TheVariants.{Column, DecipointAcross, DotAcross, DecipointDown, DotDown, Line, LeftMargin, RightMargin, TopMargin, Vmi, LinesPerInch, Hmi, Termination, PushPop, Resolution, StartRaster, EndRaster, ResetRaster, SkipRows}
use Rattle.rules.specs.declared.Command.{Command}
use Rattle.rules.specs.declared.Command.TheVariants.{Valued, Method, Print, Row, Unknown}
use Rattle.rules.specs.declared.Sequence.{Sequence}
use Rattle.rules.specs.declared.Sequence.TheVariants.{Closed, Open}
use Rattle.rules.specs.Findings.{finding_number}
use Rattle.rules.specs.Number.{size_of}
use Rattle.read_item.specs.declared.Item.{Item}
use Rattle.read_item.specs.declared.Item.TheVariants as found
use Rattle.read_item.specs.declared.ReadItem.{ReadItem}

-- 0 absolute, 1 relative, 2 relative with a minus
abbrev pub sign_number : Value → ℕ
sign_number (Absolute n) = 0
sign_number (Relative negative n) = cond negative 2 1

-- a value from its sign and size
abbrev pub value_of : Bool → Bool → ℕ → Value
value_of relative negative n = cond relative (Relative negative n) (Absolute n)

-- the commands by number, in the order of the paper's list
abbrev pub kind_number : Kind → ℕ
kind_number Column = 1
kind_number DecipointAcross = 2
kind_number DotAcross = 3
kind_number DecipointDown = 4
kind_number DotDown = 5
kind_number Line = 6
kind_number LeftMargin = 7
kind_number RightMargin = 8
kind_number TopMargin = 9
kind_number Vmi = 10
kind_number LinesPerInch = 11
kind_number Hmi = 12
kind_number Termination = 13
kind_number PushPop = 14
kind_number Resolution = 15
kind_number StartRaster = 16
kind_number EndRaster = 17
kind_number ResetRaster = 18
kind_number SkipRows = 19

-- 0 is a command that is not carried
abbrev pub command_number : Command → ℕ
command_number (Valued k v) = kind_number k
command_number (Method v) = 20
command_number (Print v) = 21
command_number (Row v) = 22
command_number Unknown = 0

abbrev pub command_sign : Command → ℕ
command_sign (Valued k v) = sign_number v
command_sign (Method v) = sign_number v
command_sign (Print v) = sign_number v
command_sign (Row v) = sign_number v
command_sign Unknown = 0

abbrev pub command_size : Command → ℕ
command_size (Valued k v) = size_of v
command_size (Method v) = size_of v
command_size (Print v) = size_of v
command_size (Row v) = size_of v
command_size Unknown = 0

-- 0 text, 1 code, 2 two-byte command, 3 command, 4 broken
abbrev pub item_number : Item → ℕ
item_number (found.Text b) = 0
item_number (found.Code b) = 1
item_number (found.Two b) = 2
item_number (found.Command k from to) = 3
item_number (found.Broken f) = 4

-- the byte, the command's number, or the finding
abbrev pub detail : Item → ℕ
detail (found.Text b) = b
detail (found.Code b) = b
detail (found.Two b) = b
detail (found.Command k from to) = command_number k
detail (found.Broken f) = finding_number f

abbrev pub value_sign : Item → ℕ
value_sign (found.Text b) = 0
value_sign (found.Code b) = 0
value_sign (found.Two b) = 0
value_sign (found.Command k from to) = command_sign k
value_sign (found.Broken f) = 0

abbrev pub value_size : Item → ℕ
value_size (found.Text b) = 0
value_size (found.Code b) = 0
value_size (found.Two b) = 0
value_size (found.Command k from to) = command_size k
value_size (found.Broken f) = 0

abbrev pub payload_from : Item → ℕ
payload_from (found.Text b) = 0
payload_from (found.Code b) = 0
payload_from (found.Two b) = 0
payload_from (found.Command k from to) = from
payload_from (found.Broken f) = 0

abbrev pub payload_to : Item → ℕ
payload_to (found.Text b) = 0
payload_to (found.Code b) = 0
payload_to (found.Two b) = 0
payload_to (found.Command k from to) = to
payload_to (found.Broken f) = 0

-- the open sequence from two bytes, 0 for none
abbrev pub opened : ℕ → ℕ → Sequence
opened first group = cond (eqb first 0) Closed (Open first group)

abbrev pub first_of : Sequence → ℕ
first_of Closed = 0
first_of (Open f g) = f

abbrev pub group_of : Sequence → ℕ
group_of Closed = 0
group_of (Open f g) = g

-- a field of what was read: 0 kind, 1 the place behind it, 2 and 3 the sequence then open, 4 the byte, the command's number or the
-- finding, 5 and 6 the value's sign and size, 7 and 8 the payload's places
abbrev pub field : ReadItem → ℕ → ℕ
field r n =
    cond (eqb n 0) (item_number r.item)
    (cond (eqb n 1) r.next
    (cond (eqb n 2) (first_of r.sequence)
    (cond (eqb n 3) (group_of r.sequence)
    (cond (eqb n 4) (detail r.item)
    (cond (eqb n 5) (value_sign r.item)
    (cond (eqb n 6) (value_size r.item)
    (cond (eqb n 7) (payload_from r.item)
    (payload_to r.item))))))))
