-- Commands and items written as far as there is room, counted all the same. Assumes nothing.
use mathlib.Core.Path.{◌≡◌, ap, ◌∙◌}
use mathlib.Core.Bool.{Bool, true, false}
use mathlib.Core.List.{List, [], ◌∷◌, ◌++◌, append-nil}
use Prim.Native.Nat.{ℕ, ◌+◌, ◌-◌, ◌≤◌}
use native.Mathlib.Omega.{arith}
use lib.ListN.{length, length-append, length-take, take, drop}
use lib.Seq.{sets, take_all}
use Rattle.common.specs.Choice.{one_of}
use Rattle.common.specs.Stores.{Wrote, Puts}
use Rattle.common.specs.Lists.{trim}
use Rattle.common.proofs.Choices.{choice}
use Rattle.common.proofs.Stores.{sets_then}
use Rattle.rules.specs.declared.Kind.{Kind}
use Rattle.rules.specs.declared.Value.{Value}
use Rattle.rules.specs.declared.Command.{Command}
use Rattle.rules.specs.declared.Command.TheVariants.{Valued, Print, Row}
use Rattle.rules.specs.declared.Finding.{Finding}
use Rattle.rules.specs.Findings.{is_clean}
use Rattle.rules.specs.Commands.{print_spelled, row_spelled, whole, use_of, used_value, is_negative}
use Rattle.rules.specs.Acts.{order}
use Rattle.rules.specs.Plain.{put}
use Rattle.read_item.specs.declared.Item.{Item}
use Rattle.read_item.specs.declared.Item.TheVariants as found
use Rattle.read_item.specs.Items.{item_in, from_of, to_of}
use Rattle.plain_length.specs.Counts.{Counted}
use Rattle.plain_head.specs.Heads.{head_of, HeadLength}
use Rattle.plain_head.proofs.Heads.{print_append, row_append}
use Rattle.plain_item.specs.Plain.{PutsShort, plain_command, plain_item}
use Rattle.plain_item.proofs.Trimming.{trim_take}
use Rattle.plain_short.specs.Bytes.{carried_codes, plain_code, plain_two}
use Rattle.plain_short.proofs.Bytes.{puts_none, puts_out}

-- an act's text is few bytes
pub short_none : (l : List ℕ) (n : ℕ) → PutsShort l n [] l n
short_none l n = record { puts = puts_none l n; small = omega arith }

module _ (l : List ℕ) (at : ℕ) (k : Kind) (v : Value) (n : ℕ) (c : Counted (put (order k v) []) 30 n) where
  -- a command beyond the room
  pub order_out : length l ≤ at → PutsShort l at (put (order k v) []) l (at + n)
  order_out h = record { puts = puts_out l at (put (order k v) []) (at + n) h (ap (λ (i : ℕ). at + i) c.is); small = omega (arith, c.small) }

-- a head and a payload
module _ (l : List ℕ) (at : ℕ) (h t x : List ℕ) (behind n : ℕ) (b : behind ≡ at + length h) (s : length h ≤ 24) (k : n ≡ length t) (f : n ≤ 32767) (e : x ≡ h ++ (t ++ [])) where
  long : length x ≡ length h + length t
  long = ap length (e ∙ ap (λ (y : List ℕ). h ++ y) (append-nil t)) ∙ length-append h t

  counted_out : length l ≤ at → PutsShort l at x l (behind + n)
  counted_out o = let i = long in record { puts = puts_out l at x (behind + n) o (omega arith); small = omega arith }

  counted_put : (l1 l2 : List ℕ) (q : ℕ) → Wrote l at h l1 q → l2 ≡ sets l1 behind t → PutsShort l at x l2 (behind + n)
  counted_put l1 l2 q w p =
      let i = long in
      record {
        puts = record { next = omega arith; held = rw (e, append-nil) (sets_then l at h t w.held p b) };
        small = omega arith;
      }

-- &p#X, not negative
module _ (v : Value) (p : List ℕ) (l : List ℕ) (at m n : ℕ) (y : Bool) (z : y ≡ is_negative whole v) (z₁ : y ≡ false) (k : n ≡ length p) (few : length p ≤ 32767) (c : HeadLength n m) where
  abbrev Prints : List ℕ → Type 0
  Prints after = (f : Finding) (row : List ℕ) → PutsShort l at (plain_command (Print v) p f row) after ((at + m) + n)

  print_text : (f : Finding) (row : List ℕ) → plain_command (Print v) p f row ≡ head_of print_spelled n ++ (p ++ [])
  unfolding plain_command
  print_text f row = rw (← z, z₁, k) (print_append p [])

  pub print_out : length l ≤ at → Prints l
  print_out h f row = counted_out l at (head_of print_spelled n) p (plain_command (Print v) p f row) (at + m) n (ap (λ (i : ℕ). at + i) c.print) (omega (arith, c.small, c.print)) k (omega arith) (print_text f row) h

  pub print_put : (l1 l2 : List ℕ) (q : ℕ) → Wrote l at (head_of print_spelled n) l1 q → l2 ≡ sets l1 (at + m) (take n (drop 0 p)) → Prints l2
  print_put l1 l2 q w h f row =
      let e : take n (drop 0 p) ≡ p = take_all n p (omega arith) in
      counted_put l at (head_of print_spelled n) p (plain_command (Print v) p f row) (at + m) n (ap (λ (i : ℕ). at + i) c.print) (omega (arith, c.small, c.print)) k (omega arith) (print_text f row) l1 l2 q w (rw e at h)

-- *b#W, not negative
module _ (v : Value) (row : List ℕ) (l : List ℕ) (at m n : ℕ) (y : Bool) (z : y ≡ is_negative whole v) (z₁ : y ≡ false) (k : n ≡ length (trim row)) (in_row : n ≤ length row) (few : length row ≤ 600) (c : HeadLength n m) where
  abbrev Draws : List ℕ → Type 0
  Draws after = (f : Finding) (p : List ℕ) → PutsShort l at (plain_command (Row v) p f row) after ((at + m) + n)

  row_text : (f : Finding) (p : List ℕ) → plain_command (Row v) p f row ≡ head_of row_spelled n ++ (trim row ++ [])
  unfolding plain_command
  row_text f p = rw (← z, z₁, k) (row_append row [])

  pub row_out : length l ≤ at → Draws l
  row_out h f p = counted_out l at (head_of row_spelled n) (trim row) (plain_command (Row v) p f row) (at + m) n (ap (λ (i : ℕ). at + i) c.row) (omega (arith, c.small, c.row)) k (omega arith) (row_text f p) h

  pub row_put : (l1 l2 : List ℕ) (q : ℕ) → Wrote l at (head_of row_spelled n) l1 q → l2 ≡ sets l1 (at + m) (take n (drop 0 row)) → Draws l2
  row_put l1 l2 q w h f p =
      let e : take n (drop 0 row) ≡ trim row = rw k (trim_take row) in
      counted_put l at (head_of row_spelled n) (trim row) (plain_command (Row v) p f row) (at + m) n (ap (λ (i : ℕ). at + i) c.row) (omega (arith, c.small, c.row)) k (omega arith) (row_text f p) l1 l2 q w (rw e at h)

module _ {l l' : List ℕ} {at r : ℕ} where
  -- a command with a value that is carried out
  pub valued_put : (k : Kind) (v u : Value) (f : Finding) (x : Bool) → x ≡ is_clean f → x ≡ true → u ≡ used_value (use_of k) v → PutsShort l at (put (order k u) []) l' r
      → (p row : List ℕ) → PutsShort l at (plain_command (Valued k v) p f row) l' r
  unfolding plain_command
  valued_put k v u f x e h y q p row = rw (← e, h, ← y) q

  pub command_told : (i j : Command) (p : List ℕ) (f : Finding) (row : List ℕ) → i ≡ j → PutsShort l at (plain_command j p f row) l' r → PutsShort l at (plain_command i p f row) l' r
  command_told i j p f row e q = rw e q

  -- in the stream
  pub item_command : (s : List ℕ) (i : Item) (k : Command) (from to : ℕ) (f : Finding) (row : List ℕ) → i ≡ found.Command k from to
      → PutsShort l at (plain_command k (take (to - from) (drop from s)) f row) l' r → PutsShort l at (plain_item (item_in s i) f row) l' r
  unfolding plain_item
  item_command s i k from to f row e q = rw e q

  pub item_text : (s : List ℕ) (i : Item) (b : ℕ) (f : Finding) (row : List ℕ) → i ≡ found.Text b → Puts l at (b ∷ []) l' r → PutsShort l at (plain_item (item_in s i) f row) l' r
  unfolding plain_item
  item_text s i b f row e p = rw e (record { puts = p; small = omega (arith, p.next) })

  pub item_code : (s : List ℕ) (i : Item) (b : ℕ) (f : Finding) (row : List ℕ) → i ≡ found.Code b → Puts l at (plain_code b) l' r → PutsShort l at (plain_item (item_in s i) f row) l' r
  unfolding plain_item
  item_code s i b f row e p =
      let n = choice (λ (w : List ℕ). length w ≤ 1) (one_of carried_codes b) {a = b ∷ []} {b = []} (omega arith) (omega arith) in
      rw e (record { puts = p; small = omega (arith, p.next) })

  pub item_two : (s : List ℕ) (i : Item) (b : ℕ) (f : Finding) (row : List ℕ) → i ≡ found.Two b → Puts l at (plain_two b f) l' r → PutsShort l at (plain_item (item_in s i) f row) l' r
  unfolding plain_item
  item_two s i b f row e p =
      let n = choice (λ (w : List ℕ). length w ≤ 2) (is_clean f) {a = 27 ∷ b ∷ []} {b = []} (omega arith) (omega arith) in
      rw e (record { puts = p; small = omega (arith, p.next) })

module _ (l : List ℕ) (at : ℕ) where
  -- a broken piece
  pub item_broken : (s : List ℕ) (i : Item) (x f : Finding) (row : List ℕ) → i ≡ found.Broken x → PutsShort l at (plain_item (item_in s i) f row) l at
  unfolding plain_item
  item_broken s i x f row e = rw e (short_none l at)

  -- a command with a finding
  pub valued_none : (k : Kind) (v : Value) (f : Finding) (x : Bool) → x ≡ is_clean f → x ≡ false → (p row : List ℕ) → PutsShort l at (plain_command (Valued k v) p f row) l at
  unfolding plain_command
  valued_none k v f x e h p row = rw (← e, h) (short_none l at)

  -- negative values
  pub print_none : (v : Value) (p : List ℕ) (x : Bool) → x ≡ is_negative whole v → x ≡ true → (f : Finding) (row : List ℕ) → PutsShort l at (plain_command (Print v) p f row) l at
  unfolding plain_command
  print_none v p x e h f row = rw (← e, h) (short_none l at)

  pub row_none : (v : Value) (row : List ℕ) (x : Bool) → x ≡ is_negative whole v → x ≡ true → (f : Finding) (p : List ℕ) → PutsShort l at (plain_command (Row v) p f row) l at
  unfolding plain_command
  row_none v row x e h f p = rw (← e, h) (short_none l at)

-- a payload is as long as a value can say
pub part_short : (s : List ℕ) (i : Item) (k : Command) (from to : ℕ) → i ≡ found.Command k from to → to_of i ≤ from_of i + 32767 → length (take (to - from) (drop from s)) ≤ 32767
part_short s i k from to e h = let l = length-take (to - from) (drop from s) in omega (arith, ap from_of e, ap to_of e)
