-- Laws of the reader's definitions, one for each way through the code. Assumes nothing.
use mathlib.Core.Path.{◌≡◌, refl, sym, ap, ap₂, ◌∙◌}
use mathlib.Core.Bool.{Bool, true, false, cond, ◌&&◌}
use mathlib.Core.List.{List, [], ◌∷◌}
use Prim.Native.Nat.{ℕ, ◌+◌, ◌-◌, ◌≤◌, ◌<◌}
use native.Mathlib.Omega.{arith}
use lib.Dec.{leb, ltb}
use Rattle.std.specs.Prelude.{Option, Some, None}
use lib.ListN.{length, take, drop, get_or, length-drop, length-take, drop_of_length-le}
use borrow.Author.Tests.{eq-eqb, ne_eqb, le-leb, lt-leb}
use Rattle.common.specs.Choice.{within}
use Rattle.common.proofs.Choices.{within_in, within_under, within_over}
use Rattle.common.proofs.Places.{cut}
use Rattle.rules.specs.declared.Value.{Value}
use Rattle.rules.specs.declared.Sequence.{Sequence}
use Rattle.rules.specs.declared.Sequence.TheVariants.{Closed, Open}
use Rattle.rules.specs.declared.Finding.TheVariants.{CannotStand}
use Rattle.rules.specs.declared.Command.{Command}
use Rattle.rules.specs.Number.{count}
use Rattle.rules.specs.Commands.{chosen}
use Rattle.rules.specs.Items as rule
use Rattle.rules.specs.Items.{Reading, reading, ends_inside, cannot_stand, has_payload, payload, letter, parameter, group, behind_escape, is_text, read}
use Rattle.read_number.specs.declared.ValueAt.{ValueAt}
use Rattle.read_number.specs.Answers.{ReadAt}
use Rattle.read_number.proofs.Reading.{cut_at}
use Rattle.read_item.specs.declared.Item.TheVariants as found
use Rattle.read_item.specs.declared.ReadItem.{ReadItem}
use Rattle.read_letter.specs.declared.Letter.{Letter}
use Rattle.read_letter.specs.Letters.{asked, letter_with, ending}
use Rattle.read_item.specs.declared.Begun.{Begun}
use Rattle.read_item.specs.declared.Begun.TheVariants as begun
use Rattle.read_item.specs.Items.{read_to, up_to, Begins}

-- ---- places

-- what is read at a place and ends there
ends_at : (s : List ℕ) (at : ℕ) → at ≤ length s → length s - length (drop at s) ≡ at
ends_at s at h = rw length-drop (omega arith)

-- what is read of nothing is read from the end of the stream on
ended_at : (f : List ℕ → Reading) (s : List ℕ) (at : ℕ) (r : ReadItem) → length s ≤ at → f [] ≡ ends_inside → r ≡ up_to (length s) ends_inside → r ≡ up_to (length s) (f (drop at s))
ended_at f s at r h e j = j ∙ ap (up_to (length s)) (sym e ∙ ap f (sym (drop_of_length-le s h)))

module _ (s : List ℕ) (at : ℕ) where
  -- a byte that cannot stand there
  broken_there : (b : ℕ) → at < length s → record { item = found.Broken CannotStand; sequence = Closed; next = at } ≡ up_to (length s) (cannot_stand (b ∷ drop (at + 1) s))
  broken_there b h = let e : length s - length (b ∷ drop (at + 1) s) ≡ at = rw length-drop (omega arith) in rw e

  -- a command with n bytes of payload
  command_there : (k : Command) (q : Sequence) (n : ℕ) → at ≤ length s → n ≤ length s - at
      → record { item = found.Command k at (at + n); sequence = q; next = at + n } ≡ up_to (length s) (reading (rule.command k (take n (drop at s))) q (drop n (drop at s)))
  command_there k q n i h =
      let e : length s - length (drop n (drop at s)) ≡ at + n = rw (length-drop, length-drop) (omega arith) in
      let f : at + n - length (take n (drop at s)) ≡ at = rw (length-take, length-drop) (omega arith) in
      rw (e, f)

-- a command with n bytes of payload, if there are as many
abbrev given : ℕ → ℕ → ℕ → Value → Sequence → List ℕ → ℕ → Reading
given f g l v q s n = cond (leb n (length s)) (reading (rule.command (chosen f g l v) (take n s)) q (drop n s)) ends_inside

-- a command takes the payload that it asks for, which may be none
payload_asked : (f g l : ℕ) (v : Value) (q : Sequence) (s : List ℕ) → given f g l v q s (asked f g l v) ≡ payload f g l v q s
unfolding payload
payload_asked f g l v q s = go (has_payload f g l)
  where
    go : (t : Bool) → given f g l v q s (cond t (count v) 0) ≡ cond t (given f g l v q s (count v)) (reading (rule.command (chosen f g l v) []) q s)
    go true = refl
    go false = rw (le-leb 0 (length s) (omega arith))

module _ (s : List ℕ) (at f g l : ℕ) (v : Value) (q : Sequence) (n : ℕ) (i : at ≤ length s) (a : n ≡ asked f g l v) where
  -- the payload that the code asks for is the one of the rules
  payload_given : given f g l v q (drop at s) n ≡ payload f g l v q (drop at s)
  payload_given = ap (given f g l v q (drop at s)) a ∙ payload_asked f g l v q (drop at s)

  -- the payload is there
  pub payload_there : (k : Command) → k ≡ chosen f g l v → n ≤ length s - at
      → record { item = found.Command k at (at + n); sequence = q; next = at + n } ≡ up_to (length s) (payload f g l v q (drop at s))
  payload_there k e j = command_there s at k q n i j ∙ rw e (ap (up_to (length s)) (rw (length-drop, le-leb n (length s - at) j) at payload_given))

  -- the payload is short
  pub payload_short : length s - at < n → ends_inside ≡ payload f g l v q (drop at s)
  payload_short j = rw (length-drop, lt-leb n (length s - at) j) at payload_given

-- ---- what ends a command

-- by how a byte ends it
abbrev ended : ℕ → ℕ → Value → ℕ → List ℕ → Option Letter → Reading
ended f g v b s (Some l) = payload f g l.capital v l.behind s
ended f g v b s None = cannot_stand (b ∷ s)

-- the rules go by how the byte ends it
letter_ended : (f g : ℕ) (v : Value) (b : ℕ) (s : List ℕ) → ended f g v b s (ending f g b) ≡ letter f g v (b ∷ s)
unfolding letter
letter_ended f g v b s = go (within 64 94 b) (within 96 126 b && ltb 0 g)
  where
    go : (t u : Bool) → ended f g v b s (cond t (Some (letter_with b Closed)) (cond u (Some (letter_with (b - 32) (Open f g))) None))
        ≡ cond t (payload f g b v Closed s) (cond u (payload f g (b - 32) v (Open f g) s) (cannot_stand (b ∷ s)))
    go true u = refl
    go false true = refl
    go false false = refl

-- the stream ends before it
pub letter_end : (s : List ℕ) (at f g : ℕ) (v : Value) (r : ReadItem) → length s ≤ at → r ≡ up_to (length s) ends_inside → r ≡ up_to (length s) (letter f g v (drop at s))
unfolding letter
letter_end s at f g v r h j = ended_at (letter f g v) s at r h refl j

module _ (s : List ℕ) (at f g : ℕ) (v : Value) (b : ℕ) (h : at < length s) (k : b ≡ get_or s at 0) (x : Option Letter) (e : x ≡ ending f g b) where
  -- the byte there, told apart, gives what the rules read
  told_letter : ended f g v b (drop (at + 1) s) x ≡ letter f g v (drop at s)
  told_letter = ap (ended f g v b (drop (at + 1) s)) e ∙ letter_ended f g v b (drop (at + 1) s) ∙ ap (letter f g v) (sym (cut_at s at b h k))

  -- a letter
  pub letter_there : (l : Letter) (r : ReadItem) → x ≡ Some l → r ≡ up_to (length s) (payload f g l.capital v l.behind (drop (at + 1) s)) → r ≡ up_to (length s) (letter f g v (drop at s))
  letter_there l r d j = j ∙ ap (up_to (length s)) (ap (ended f g v b (drop (at + 1) s)) (sym d) ∙ told_letter)

  -- a byte that cannot stand there
  pub letter_broken : x ≡ None → record { item = found.Broken CannotStand; sequence = Closed; next = at } ≡ up_to (length s) (letter f g v (drop at s))
  letter_broken d = broken_there s at b h ∙ ap (up_to (length s)) (ap (ended f g v b (drop (at + 1) s)) (sym d) ∙ told_letter)

-- ---- one thing behind another

-- what a callee read is what is wanted
pub through : (n : ℕ) (w x : Reading) (r : ReadItem) → r ≡ up_to n w → w ≡ x → r ≡ up_to n x
through n w x r e f = e ∙ ap (up_to n) f

module _ (s : List ℕ) (at : ℕ) (x : Reading) (h : at < length s) where
  -- one byte was taken
  ends_next : at + 1 ≡ length s - length (drop (at + 1) s)
  ends_next = sym (ends_at s (at + 1) (omega arith))

  -- a text byte
  pub gives_text : (b : ℕ) → reading (rule.text b) Closed (drop (at + 1) s) ≡ x → record { item = found.Text b; sequence = Closed; next = at + 1 } ≡ up_to (length s) x
  gives_text b e = ap (λ (n : ℕ). read_to n (reading (rule.text b) Closed (drop (at + 1) s))) ends_next ∙ ap (up_to (length s)) e

  -- a control code
  pub gives_code : (b : ℕ) → reading (rule.code b) Closed (drop (at + 1) s) ≡ x → record { item = found.Code b; sequence = Closed; next = at + 1 } ≡ up_to (length s) x
  gives_code b e = ap (λ (n : ℕ). read_to n (reading (rule.code b) Closed (drop (at + 1) s))) ends_next ∙ ap (up_to (length s)) e

  -- a two-byte command
  pub gives_two : (b : ℕ) → reading (rule.two b) Closed (drop (at + 1) s) ≡ x → record { item = found.Two b; sequence = Closed; next = at + 1 } ≡ up_to (length s) x
  gives_two b e = ap (λ (n : ℕ). read_to n (reading (rule.two b) Closed (drop (at + 1) s))) ends_next ∙ ap (up_to (length s)) e

-- ---- behind ESC

-- the stream ends where a group may stand
pub group_end : (s : List ℕ) (at first : ℕ) (r : ReadItem) → length s ≤ at → r ≡ up_to (length s) ends_inside → r ≡ up_to (length s) (group first (drop at s))
unfolding group
group_end s at first r h j = ended_at (group first) s at r h refl j

-- the stream ends behind ESC
pub escape_end : (s : List ℕ) (at : ℕ) (r : ReadItem) → length s ≤ at → r ≡ up_to (length s) ends_inside → r ≡ up_to (length s) (behind_escape (drop at s))
unfolding behind_escape
escape_end s at r h j = ended_at behind_escape s at r h refl j

module _ (s : List ℕ) (at b : ℕ) (h : at < length s) (k : b ≡ get_or s at 0) where
  -- a byte that is a group
  pub group_in : (first : ℕ) → 96 ≤ b → b < 127 → up_to (length s) (parameter first b (drop (at + 1) s)) ≡ up_to (length s) (group first (drop at s))
  unfolding group
  group_in first lo hi = rw (cut_at s at b h k, within_in 96 126 b lo (omega arith))

  -- a byte that is none: the value may begin with it
  pub group_under : (first : ℕ) → b < 96 → up_to (length s) (parameter first 0 (drop at s)) ≡ up_to (length s) (group first (drop at s))
  unfolding group
  group_under first lo = rw (cut_at s at b h k, within_under 96 126 b lo)

  pub group_over : (first : ℕ) → 127 ≤ b → up_to (length s) (parameter first 0 (drop at s)) ≡ up_to (length s) (group first (drop at s))
  unfolding group
  group_over first hi = rw (cut_at s at b h k, within_over 96 126 b hi)

  -- a two-byte command
  pub escape_two : 48 ≤ b → b < 127 → record { item = found.Two b; sequence = Closed; next = at + 1 } ≡ up_to (length s) (behind_escape (drop at s))
  unfolding behind_escape
  escape_two lo hi = gives_two s at (behind_escape (drop at s)) h b (rw (cut_at s at b h k, within_in 48 126 b lo (omega arith)))

  -- a sequence
  pub escape_group : (r : Begun) → 33 ≤ b → b < 48 → Begins s (group b (drop (at + 1) s)) r → Begins s (behind_escape (drop at s)) r
  unfolding behind_escape
  escape_group r lo hi p =
      (p.0 ∙ ap (up_to (length s)) (rw (cut_at s at b h k, within_under 48 126 b hi, within_in 33 47 b lo (omega arith))), p.1)

  -- a byte that cannot stand behind ESC
  pub escape_under : b < 33 → record { item = found.Broken CannotStand; sequence = Closed; next = at } ≡ up_to (length s) (behind_escape (drop at s))
  unfolding behind_escape
  escape_under lo =
      let e : cannot_stand (b ∷ drop (at + 1) s) ≡ behind_escape (drop at s) = rw (cut_at s at b h k, within_under 48 126 b (omega arith), within_under 33 47 b lo) in
      broken_there s at b h ∙ ap (up_to (length s)) e

  pub escape_over : 127 ≤ b → record { item = found.Broken CannotStand; sequence = Closed; next = at } ≡ up_to (length s) (behind_escape (drop at s))
  unfolding behind_escape
  escape_over hi =
      let e : cannot_stand (b ∷ drop (at + 1) s) ≡ behind_escape (drop at s) = rw (cut_at s at b h k, within_over 48 126 b hi, within_over 33 47 b (omega arith)) in
      broken_there s at b h ∙ ap (up_to (length s)) e

-- ---- a value

-- a value was read, and what ends it
pub parameter_read : (s : List ℕ) (at f g : ℕ) (v : ValueAt) (r : ReadItem) → at ≤ length s → ReadAt s at v → r ≡ up_to (length s) (letter f g v.value (drop v.next s)) → r ≡ up_to (length s) (parameter f g (drop at s))
unfolding parameter
parameter_read s at f g v r h a e = e ∙ ap (up_to (length s)) (ap₂ (letter f g) a.is (a.left h))

-- ---- where no sequence is open

-- ESC
pub afresh_escape : (s : List ℕ) (at : ℕ) (r : Begun) → at < length s → get_or s at 0 ≡ 27 → Begins s (behind_escape (drop (at + 1) s)) r → Begins s (read Closed (drop at s)) r
unfolding read
afresh_escape s at r h e p = (p.0 ∙ ap (up_to (length s)) (rw (cut s at h, eq-eqb (get_or s at 0) 27 e)), p.1)

module _ (s : List ℕ) (at : ℕ) (h : at < length s) (n : get_or s at 0 ≡ 27 → ⊥) (x : Bool) (e : x ≡ is_text (get_or s at 0)) where
  -- where no sequence is open, a byte that is text
  pub afresh_text : x ≡ true → record { item = found.Text (get_or s at 0); sequence = Closed; next = at + 1 } ≡ up_to (length s) (read Closed (drop at s))
  unfolding read
  afresh_text f = gives_text s at (read Closed (drop at s)) h (get_or s at 0) (rw (cut s at h, ne_eqb (get_or s at 0) 27 n, ← e, f))

  -- and one that is neither text nor ESC
  pub afresh_code : x ≡ false → record { item = found.Code (get_or s at 0); sequence = Closed; next = at + 1 } ≡ up_to (length s) (read Closed (drop at s))
  unfolding read
  afresh_code f = gives_code s at (read Closed (drop at s)) h (get_or s at 0) (rw (cut s at h, ne_eqb (get_or s at 0) 27 n, ← e, f))

module _ (s : List ℕ) (at : ℕ) (q : Sequence) (h : at < length s) where
  -- in an open sequence
  pub begun_open : (first group : ℕ) → q ≡ Open first group → Begins s (read q (drop at s)) (begun.Sequence first group at)
  unfolding read
  begun_open first group e = rw e (refl, omega arith)
