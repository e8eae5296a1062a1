-- Where an item lies: what is left stands at the next place, payload is a part of the stream, and both keep their bounds. Assumes nothing.
use mathlib.Core.Path.{◌≡◌, refl, sym, ap, ◌∙◌}
use mathlib.Core.Bool.{false, ◌&&◌}
use mathlib.Core.List.{List, [], ◌∷◌, ◌++◌}
use Prim.Native.Nat.{ℕ, ◌+◌, ◌-◌, ◌≤◌, ◌<◌}
use native.Mathlib.Omega.{arith}
use lib.Dec.{eqb, leb, ltb}
use lib.ListN.{length, take, drop, length-append, length-drop, drop_of_length-le, take-append-drop}
use lib.Seq.{drop-drop, take_at, drop_at}
use Rattle.common.specs.Choice.{within}
use Rattle.common.proofs.Choices.{choice, and_false_right}
use Rattle.rules.specs.declared.Value.{Value}
use Rattle.rules.specs.declared.Sequence.{Sequence}
use Rattle.rules.specs.declared.Sequence.TheVariants.{Closed, Open}
use Rattle.rules.specs.declared.Finding.TheVariants.{EndsInside}
use Rattle.rules.specs.declared.Command.{Command}
use Rattle.rules.specs.declared.Command.TheVariants.{Valued, Method, Print, Row, Unknown}
use Rattle.rules.specs.Number.{value, size, digits, fraction, absolute, count}
use Rattle.rules.specs.Items as rule
use Rattle.rules.specs.Items.{Reading, ends_inside, has_payload, payload, letter, parameter, group, behind_escape, is_text, read}
use Rattle.rules.specs.Acts.{is_closed}
use Rattle.theorems.proofs.Suffixes.{Suffix, here, there, suffix_trans, suffix_nil, suffix_short, suffix_is, value_suffix}
use Rattle.theorems.proofs.Reading.{Readable, HoldsLow, read_sane}
use Rattle.read_item.specs.declared.Item.{Item}
use Rattle.read_item.specs.declared.Item.TheVariants as found
use Rattle.read_item.specs.declared.ReadItem.{ReadItem}
use Rattle.read_item.specs.declared.Begun.{Begun}
use Rattle.read_item.specs.declared.Begun.TheVariants as begun
use Rattle.read_item.specs.Items.{Begins, item_to, read_to, up_to, read_at, item_in, from_of, to_of, held_size, size_in, ItemAt}

-- ---- payload and what is left

-- an item's payload
abbrev payload_of : rule.Item → List ℕ
payload_of (rule.text b) = []
payload_of (rule.code b) = []
payload_of (rule.two b) = []
payload_of (rule.command k p) = p
payload_of (rule.broken f) = []

-- payload and what is left are the end of what was read
abbrev Lies : List ℕ → Reading → Type 0
Lies s r = Suffix (payload_of r.item ++ r.rest) s

-- of a command with its payload
payload_lies : (f g l : ℕ) (v : Value) (q : Sequence) (s : List ℕ) → Lies s (payload f g l v q s)
unfolding payload
payload_lies f g l v q s =
    choice (Lies s) (has_payload f g l) (choice (Lies s) (leb (count v) (length s)) (rw take-append-drop here) (suffix_nil s)) here

-- of what ends a command
letter_lies : (f g : ℕ) (v : Value) (s : List ℕ) → Lies s (letter f g v s)
unfolding letter
letter_lies f g v [] = here
letter_lies f g v (b ∷ s) =
    choice (Lies (b ∷ s)) (within 64 94 b) (there (payload_lies f g b v Closed s))
    (choice (Lies (b ∷ s)) (within 96 126 b && ltb 0 g) (there (payload_lies f g (b - 32) v (Open f g) s)) here)

-- of a value and what ends it
parameter_lies : (f g : ℕ) (s : List ℕ) → Lies s (parameter f g s)
unfolding parameter
parameter_lies f g s = suffix_trans (letter_lies f g (value s).value (value s).rest) (value_suffix s)

-- behind the first byte
group_lies : (f : ℕ) (s : List ℕ) → Lies s (group f s)
unfolding group
group_lies f [] = here
group_lies f (b ∷ s) = choice (Lies (b ∷ s)) (within 96 126 b) (there (parameter_lies f b s)) (parameter_lies f 0 (b ∷ s))

-- behind ESC
escape_lies : (s : List ℕ) → Lies s (behind_escape s)
unfolding behind_escape
escape_lies [] = here
escape_lies (b ∷ s) =
    choice (Lies (b ∷ s)) (within 48 126 b) (there here) (choice (Lies (b ∷ s)) (within 33 47 b) (there (group_lies b s)) here)

-- of an item
read_lies : (q : Sequence) (s : List ℕ) → Lies s (read q s)
unfolding read
read_lies Closed [] = here
read_lies Closed (b ∷ s) =
    choice (Lies (b ∷ s)) (eqb b 27) (there (escape_lies s)) (choice (Lies (b ∷ s)) (is_text b) (there here) (there here))
read_lies (Open f g) s = parameter_lies f g s

module _ (s : List ℕ) (at : ℕ) (p r : List ℕ) (h : Suffix (p ++ r) (drop at s)) where
  -- payload and what is left are no longer than what there was
  lengths : length p + length r ≤ length (drop at s)
  lengths = rw length-append at (suffix_short h)

  -- the payload begins where it should
  begins : drop (at + (length (drop at s) - length r) - length p) s ≡ p ++ r
  begins =
      let m = lengths in
      let e : at + (length (drop at s) - length r) - length p ≡ at + (length (drop at s) - (length p + length r)) = omega arith in
      rw (e, ← drop-drop) (rw length-append at (suffix_is h))

  -- behind it is what is left
  behind : drop (at + (length (drop at s) - length r)) s ≡ r
  behind =
      let m = lengths in
      let e : at + (length (drop at s) - length r) - length p + length p ≡ at + (length (drop at s) - length r) = omega arith in
      rw e at (sym (drop-drop (length p) (at + (length (drop at s) - length r) - length p) s)) ∙ ap (drop (length p)) begins ∙ drop_at p r (length p) refl

  -- the payload is that part
  part : (n : ℕ) → n ≡ at + (length (drop at s) - length r) → take (n - (n - length p)) (drop (n - length p) s) ≡ p
  part n f =
      let m = lengths in
      let e : n - (n - length p) ≡ length p = omega arith in
      rw (e, f, begins) (take_at p r (length p) refl)

module _ (s : List ℕ) (at : ℕ) (q : Sequence) where
  -- at the next place stands what the rules leave
  pub read_left : drop (read_at s at q).next s ≡ (read q (drop at s)).rest
  unfolding read_at
  read_left = behind s at (payload_of (read q (drop at s)).item) (read q (drop at s)).rest (read_lies q (drop at s))

  -- the item is the one that the rules read: a command's payload is the part of the stream from a place up to another
  pub read_back : item_in s (read_at s at q).item ≡ (read q (drop at s)).item
  unfolding read_at
  read_back = go (read q (drop at s)).item (part s at (payload_of (read q (drop at s)).item) (read q (drop at s)).rest (read_lies q (drop at s)) (read_at s at q).next refl)
    where
      go : (x : rule.Item) → take ((read_at s at q).next - ((read_at s at q).next - length (payload_of x))) (drop ((read_at s at q).next - length (payload_of x)) s) ≡ payload_of x → item_in s (item_to (read_at s at q).next x) ≡ x
      go (rule.text b) e = refl
      go (rule.code b) e = refl
      go (rule.two b) e = refl
      go (rule.command k p) e = ap (rule.command k) e
      go (rule.broken f) e = refl

  -- a command was found: the rules read it, and its payload is the part from a place up to another
  pub read_command : (k : Command) (from to : ℕ) → (read_at s at q).item ≡ found.Command k from to → (read q (drop at s)).item ≡ rule.command k (take (to - from) (drop from s))
  read_command k from to e = sym read_back ∙ ap (item_in s) e

-- ---- bounds

-- at the end of the stream there is no item
read_nothing : (q : Sequence) → read q [] ≡ ends_inside
unfolding read parameter value size digits fraction absolute letter
read_nothing Closed = refl
read_nothing (Open f g) = refl

-- an item's value and payload keep their bounds
read_bounded : (q : Sequence) (s : List ℕ) → Readable (read q s).item
unfolding Readable
read_bounded q [] = rw (read_nothing q) tt
read_bounded q (b ∷ s) = (read_sane q (b ∷ s) (and_false_right (is_closed q) false refl)).bounded

-- the value that a command holds is lowered
held_low : (k : Command) → HoldsLow k → held_size k ≤ 327670000
unfolding HoldsLow
held_low (Valued k v) h = h
held_low (Method v) h = h
held_low (Print v) h = h
held_low (Row v) h = h
held_low Unknown h = omega arith

-- the bounds of an item that ends at n
record Fits (n : ℕ) (i : Item) : Type 0 where
  ordered : from_of i ≤ to_of i
  ended : to_of i ≤ n
  counted : to_of i ≤ from_of i + 32767
  low : size_in i ≤ 327670000

-- an item of the rules keeps them, wherever it ends
item_fits : (n : ℕ) (x : rule.Item) → Readable x → Fits n (item_to n x)
unfolding Readable
item_fits n (rule.text b) h = record { ordered = omega arith; ended = omega arith; counted = omega arith; low = omega arith }
item_fits n (rule.code b) h = record { ordered = omega arith; ended = omega arith; counted = omega arith; low = omega arith }
item_fits n (rule.two b) h = record { ordered = omega arith; ended = omega arith; counted = omega arith; low = omega arith }
item_fits n (rule.command k p) h = record { ordered = omega arith; ended = omega arith; counted = omega arith; low = held_low k h.0 }
item_fits n (rule.broken f) h = record { ordered = omega arith; ended = omega arith; counted = omega arith; low = omega arith }

module _ (s : List ℕ) (at : ℕ) (q : Sequence) where
  -- the answer keeps its bounds
  bounds : ItemAt s at q (read_at s at q)
  unfolding read_at
  bounds =
      let f = item_fits (read_at s at q).next (read q (drop at s)).item (read_bounded q (drop at s)) in
      let d = length-drop at s in
      record { is = refl; forward = omega arith; inside = omega arith; ordered = f.ordered; ended = f.ended; counted = f.counted; low = f.low }

  -- and so does one that is equal to it
  item_is : (r : ReadItem) → r ≡ read_at s at q → ItemAt s at q r
  item_is r e = rw e bounds

  -- from the end on there is no item
  pub item_none : length s ≤ at → ItemAt s at q (record { item = found.Broken EndsInside; sequence = Closed; next = at })
  unfolding read_at
  item_none h = item_is (record { item = found.Broken EndsInside; sequence = Closed; next = at }) (rw (drop_of_length-le s h, read_nothing q) (ap (λ (n : ℕ). read_to n ends_inside) (omega arith)))

  -- what is read of the whole stream is read at the place
  item_there : (r : ReadItem) → at < length s → r ≡ up_to (length s) (read q (drop at s)) → ItemAt s at q r
  unfolding read_at
  item_there r h e =
      let m = lengths s at (payload_of (read q (drop at s)).item) (read q (drop at s)).rest (read_lies q (drop at s)) in
      let d = length-drop at s in
      item_is r (e ∙ ap (λ (n : ℕ). read_to n (read q (drop at s))) (omega arith))

  -- an item that was read as a whole
  pub item_whole : (b : Begun) (r : ReadItem) → at < length s → Begins s (read q (drop at s)) b → b ≡ begun.Read r → ItemAt s at q r
  item_whole b r h f e = item_there r h (rw e at f.0)

  -- a sequence whose value was read
  pub item_valued : (b : Begun) (first group from : ℕ) (r : ReadItem) → at < length s → Begins s (read q (drop at s)) b → b ≡ begun.Sequence first group from
      → r ≡ up_to (length s) (parameter first group (drop from s)) → ItemAt s at q r
  item_valued b first group from r h f e j = item_there r h (j ∙ rw e at f.0)
