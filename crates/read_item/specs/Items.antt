-- An item of the rules, found at a place of the stream: payload is a part of it, from a place up to another.
use Rattle.std.specs.Prelude.{◌≡◌, List, ℕ, ◌+◌, ◌-◌, ◌≤◌, max, length, take, drop}
use Rattle.rules.specs.declared.Sequence.{Sequence}
use Rattle.rules.specs.declared.Command.{Command}
use Rattle.rules.specs.declared.Command.TheVariants.{Valued, Method, Print, Row, Unknown}
use Rattle.rules.specs.Number.{size_of}
use Rattle.rules.specs.Items as rule
use Rattle.rules.specs.Items.{Reading, parameter, read}
use Rattle.read_item.specs.declared.Item.{Item}
use Rattle.read_item.specs.declared.Item.TheVariants as found
use Rattle.read_item.specs.declared.ReadItem.{ReadItem}
use Rattle.read_item.specs.declared.Begun.{Begun}
use Rattle.read_item.specs.declared.Begun.TheVariants as begun

-- an item that ends at n: its payload is what lies before n
abbrev pub item_to : ℕ → rule.Item → Item
item_to n (rule.text b) = found.Text b
item_to n (rule.code b) = found.Code b
item_to n (rule.two b) = found.Two b
item_to n (rule.command k p) = found.Command k (n - length p) n
item_to n (rule.broken f) = found.Broken f

-- what is read up to n
abbrev pub read_to : ℕ → Reading → ReadItem
read_to n r = record { item = item_to n r.item; sequence = r.sequence; next = n }

-- what is read of a stream of n bytes: it ends where what is left begins
abbrev pub up_to : ℕ → Reading → ReadItem
up_to n r = read_to (n - length r.rest) r

-- what a beginning comes to in the stream s: of a sequence a value and what ends it are still to be read
abbrev pub begun_in : List ℕ → Begun → ReadItem
begun_in s (begun.Sequence f g from) = up_to (length s) (parameter f g (drop from s))
begun_in s (begun.Read r) = r

-- where that value begins
abbrev pub value_from : Begun → ℕ
value_from (begun.Sequence f g from) = from
value_from (begun.Read r) = 0

-- b is the beginning of what the rules read, and lies in the stream
abbrev pub Begins : List ℕ → Reading → Begun → Type 0
Begins s x b = (begun_in s b ≡ up_to (length s) x) × (value_from b ≤ length s)

-- the item at a place of the stream, read with the sequence that is open there
unfoldable pub read_at : List ℕ → ℕ → Sequence → ReadItem
read_at s at q = let r = read q (drop at s) in read_to (at + (length (drop at s) - length r.rest)) r

-- the item of the rules that an item of the stream s stands for: payload is the part of s
abbrev pub item_in : List ℕ → Item → rule.Item
item_in s (found.Text b) = rule.text b
item_in s (found.Code b) = rule.code b
item_in s (found.Two b) = rule.two b
item_in s (found.Command k from to) = rule.command k (take (to - from) (drop from s))
item_in s (found.Broken f) = rule.broken f

-- where a command's payload begins
abbrev pub from_of : Item → ℕ
from_of (found.Text b) = 0
from_of (found.Code b) = 0
from_of (found.Two b) = 0
from_of (found.Command k from to) = from
from_of (found.Broken f) = 0

-- where it ends
abbrev pub to_of : Item → ℕ
to_of (found.Text b) = 0
to_of (found.Code b) = 0
to_of (found.Two b) = 0
to_of (found.Command k from to) = to
to_of (found.Broken f) = 0

-- the size of the value that a command holds
abbrev pub held_size : Command → ℕ
held_size (Valued k v) = size_of v
held_size (Method v) = size_of v
held_size (Print v) = size_of v
held_size (Row v) = size_of v
held_size Unknown = 0

-- the size of the value of an item's command
abbrev pub size_in : Item → ℕ
size_in (found.Text b) = 0
size_in (found.Code b) = 0
size_in (found.Two b) = 0
size_in (found.Command k from to) = held_size k
size_in (found.Broken f) = 0

-- the item at a place of the stream s, with the bounds that a caller needs
pub record ItemAt (s : List ℕ) (at : ℕ) (q : Sequence) (r : ReadItem) : Type 0 where
  -- it is the item that the rules read there
  pub is : r ≡ read_at s at q
  -- the next place is not before the place
  pub forward : at ≤ r.next
  -- nor beyond the end
  pub inside : r.next ≤ max at (length s)
  -- a payload's start is not behind its end
  pub ordered : from_of r.item ≤ to_of r.item
  -- nor its end behind the item
  pub ended : to_of r.item ≤ r.next
  -- it is no longer than the largest value
  pub counted : to_of r.item ≤ from_of r.item + 32767
  -- "a size over 32,767 becomes 32,767"
  pub low : size_in r.item ≤ 327670000
