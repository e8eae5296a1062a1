-- Stores that reach beyond the end of a list. Assumes nothing.
use mathlib.Core.Path.{◌≡◌, refl, sym, ◌∙◌}
use mathlib.Core.List.{List, [], ◌∷◌, append-nil, append_assoc}
use mathlib.Core.Logic.{⊎_elim}
use Prim.Native.Nat.{ℕ, zero, suc, ◌+◌, ◌-◌, ◌≤◌, ◌<◌, min}
use native.Mathlib.Omega.{arith}
use lib.ListN.{length, get_or, take, drop, set, replicate, length-set, length-drop, length-replicate, replicate-append-replicate}
use native.Mathlib.Numerals.{add-one}
use lib.Seq.{sets, sets-eq, length-take-le, take-suc, get_or-drop, drop-drop, drop-length}
use borrow.Rule.Slice.PartMut.{put_mid}
use Rattle.common.proofs.Choices.{le_or_lt}
use Rattle.common.proofs.Stores.{sets_append, sets_out, sets_at}
use Rattle.common.proofs.Lists.{take_replicate}

-- no more need be stored than there are bytes, and places to store them
pub clip : (d : List ℕ) (at : ℕ) (v : List ℕ) (k : ℕ) → min (length d - at) (length v) ≤ k → sets d at (take k v) ≡ sets d at v
clip d at [] zero h = refl
clip d at [] (suc k) h = refl
clip d at (x ∷ v) zero h = sym (sets_out d at (x ∷ v) (omega arith))
clip d at (x ∷ v) (suc k) h = clip (set d at x) (suc at) v k (omega (arith, length-set d at x))

-- n bytes of a text from place i on, stored as far as the text and the places reach
clipped : (d : List ℕ) (at : ℕ) (s : List ℕ) (i n k : ℕ) → k ≡ min (min n (length d - at)) (length s - i) → sets d at (take k (drop i s)) ≡ sets d at (take n (drop i s))
clipped d at s i n k e = ⊎_elim few many (le_or_lt n k)
  where
    few : n ≤ k → sets d at (take k (drop i s)) ≡ sets d at (take n (drop i s))
    few h = let f : k ≡ n = omega arith in rw f

    many : k < n → sets d at (take k (drop i s)) ≡ sets d at (take n (drop i s))
    many h =
        clip d at (drop i s) k (simp length-drop (omega arith))
        ∙ sym (clip d at (drop i s) n (simp length-drop (omega arith)))

-- n times one byte, stored as far as the places reach
clipped_run : (d : List ℕ) (at n b k : ℕ) → k ≡ min n (length d - at) → sets d at (replicate k b) ≡ sets d at (replicate n b)
clipped_run d at n b k e =
    rw (e, ← take_replicate (length d - at) n b) (clip d at (replicate n b) (length d - at) (omega arith))

-- k bytes of the list are replaced by as many
pub replaced : (d : List ℕ) (at k : ℕ) (part v : List ℕ) → part ≡ v → length v ≡ k → at + k ≤ length d → put_mid at k d part ≡ sets d at v
replaced d at k part v e l h =
    let f : at + length v ≤ length d = omega arith in
    rw (e, ← l) (rw (drop-drop (length v) at d) (sym (sets-eq v d at f ∙ append_assoc (take at d) v (drop (at + length v) d))))

module _ (d : List ℕ) (at : ℕ) where
  -- those from place i of a text on
  pub replaced_from : (s : List ℕ) (i n : ℕ) (part : List ℕ) → part ≡ take ((i + n) - i) (drop i s) → at + n ≤ length d → i + n ≤ length s → put_mid at ((at + n) - at) d part ≡ sets d at (take n (drop i s))
  replaced_from s i n part e h l =
      let x : (i + n) - i ≡ n = omega arith in
      let y : (at + n) - at ≡ n = omega arith in
      rw y (replaced d at n part (take n (drop i s)) (e ∙ rw x) (length-take-le n (drop i s) (simp length-drop (omega arith))) h)

  -- zeros in all of them
  pub zeroed : (f : ℕ) (part : List ℕ) → f ≡ min at (length d) → part ≡ replicate (length d - f) 0 → put_mid f (length d - f) d part ≡ sets d at (replicate (length d) 0)
  zeroed f part e g =
      let m : length d - f ≡ min (length d) (length d - f) = omega arith in
      replaced d f (length d - f) part (replicate (length d - f) 0) g (length-replicate (length d - f) 0) (omega arith)
      ∙ clipped_run d f (length d) 0 (length d - f) m
      ∙ rw e (sets_at d at (replicate (length d) 0))

-- k of the m bytes that fit are stored
pub record Copying (d : List ℕ) (at : ℕ) (s : List ℕ) (i n m : ℕ) (row : List ℕ) (k : ℕ) : Type 0 where
  pub fit : m ≡ min (min n (length d - at)) (length s - i)
  pub some : k ≤ m
  pub long : length row ≡ length d
  pub held : row ≡ sets d at (take k (drop i s))

pub copying_none : (d : List ℕ) (at : ℕ) (s : List ℕ) (i n m p q r : ℕ) → p ≡ length d - at → q ≡ min n p → r ≡ length s - i → m ≡ min q r → Copying d at s i n m d 0
copying_none d at s i n m p q r e f g h = record { fit = omega arith; some = omega arith; long = refl; held = refl }

pub copying_more : (d : List ℕ) (at : ℕ) (s : List ℕ) (i n m : ℕ) (row : List ℕ) (k : ℕ) → Copying d at s i n m row k → k < m → Copying d at s i n m (set row (at + k) (get_or s (i + k) 0)) (k + 1)
copying_more d at s i n m row k c h =
    let f = c.fit in
    let l : k < length (drop i s) = simp length-drop (omega arith) in
    let e : length (take k (drop i s)) ≡ k = length-take-le k (drop i s) (omega arith) in
    record {
      fit = f;
      some = omega arith;
      long = length-set row (at + k) (get_or s (i + k) 0) ∙ c.long;
      held = rw c.held (sym (rw (add-one, take-suc (drop i s) k 0 l, ← sets_append, e, get_or-drop)));
    }

pub copying_end : (d : List ℕ) (at : ℕ) (s : List ℕ) (i n m : ℕ) (row : List ℕ) (k : ℕ) → Copying d at s i n m row k → m ≤ k → row ≡ sets d at (take n (drop i s))
copying_end d at s i n m row k c h =
    let e = c.some in
    let f : k ≡ min (min n (length d - at)) (length s - i) = omega (arith, c.fit) in
    c.held ∙ clipped d at s i n k f

-- k of the m places that there are are filled
pub record Filling (d : List ℕ) (at n b m : ℕ) (row : List ℕ) (k : ℕ) : Type 0 where
  pub fit : m ≡ min n (length d - at)
  pub some : k ≤ m
  pub long : length row ≡ length d
  pub held : row ≡ sets d at (replicate k b)

pub filling_none : (d : List ℕ) (at n b m p : ℕ) → p ≡ length d - at → m ≡ min n p → Filling d at n b m d 0
filling_none d at n b m p e f = record { fit = omega arith; some = omega arith; long = refl; held = refl }

pub filling_more : (d : List ℕ) (at n b m : ℕ) (row : List ℕ) (k : ℕ) → Filling d at n b m row k → k < m → Filling d at n b m (set row (at + k) b) (k + 1)
filling_more d at n b m row k c h =
    record {
      fit = c.fit;
      some = omega arith;
      long = length-set row (at + k) b ∙ c.long;
      held = rw c.held (sym (rw (← replicate-append-replicate k 1 b, ← sets_append, length-replicate)));
    }

pub filling_end : (d : List ℕ) (at n b m : ℕ) (row : List ℕ) (k : ℕ) → Filling d at n b m row k → m ≤ k → row ≡ sets d at (replicate n b)
filling_end d at n b m row k c h =
    let e = c.some in
    let f : k ≡ min n (length d - at) = omega (arith, c.fit) in
    c.held ∙ clipped_run d at n b k f

-- as many as there are places
pub cleared : (d r : List ℕ) (b : ℕ) → r ≡ sets d 0 (replicate (length d) b) → r ≡ replicate (length d) b
cleared d r b h =
    let e : 0 + length (replicate (length d) b) ≡ length d = simp length-replicate (omega arith) in
    h ∙ sets-eq (replicate (length d) b) d 0 (omega arith) ∙ rw (e, drop-length, append-nil)
