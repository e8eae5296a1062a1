-- Bytes written as far as there is room, counted all the same. Assumes nothing.
use Rattle.std.proofs.Common.{◌≡◌, refl, sym, List, [], ◌++◌, ℕ, ◌+◌, ◌≤◌, arith, length, length-append}
use Rattle.common.specs.Stores.{Puts}
use Rattle.common.proofs.Stores.{sets_out, sets_then}

-- nothing is written
pub puts_none : (l : List ℕ) (n : ℕ) → Puts l n [] l n
puts_none l n = record { next = omega arith; held = refl }

-- beyond the room nothing is stored
pub puts_out : (l : List ℕ) (n : ℕ) (w : List ℕ) (r : ℕ) → length l ≤ n → r ≡ n + length w → Puts l n w l r
puts_out l n w r h e = record { next = e; held = sym (sets_out l n w h) }

module _ {l l' l'' : List ℕ} {n m r : ℕ} where
  -- one text, and another behind it
  pub puts_both : (v w : List ℕ) → Puts l n v l' m → Puts l' m w l'' r → Puts l n (v ++ w) l'' r
  puts_both v w p q = record {
    next = omega (arith, length-append v w, p.next, q.next);
    held = sets_then l n v w p.held q.held p.next;
  }
