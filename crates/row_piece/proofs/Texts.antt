-- A list with a text stored in it, byte by byte. Assumes nothing.
use mathlib.Core.Path.{◌≡◌, refl, sym, ap, ◌∙◌}
use mathlib.Core.List.{List, [], ◌∷◌, ◌++◌}
use mathlib.Core.Logic.{⊎_elim}
use Prim.Native.Nat.{ℕ, zero, suc, ◌+◌, ◌-◌, ◌≤◌, ◌<◌}
use native.Mathlib.Omega.{arith}
use native.Mathlib.Nat.{le_of_suc-le-suc, not-suc-le-zero}
use lib.ListN.{length, get_or, take, drop, set, replicate, length-set, length-replicate, length-drop, get_or-replicate, replicate-append-replicate}
use lib.Seq.{sets, length-sets, length-take-le, take-add, drop-drop, get_or-take, get_or-drop, get_or-set_same, get_or-set_other, ext_get_or}
use Rattle.common.proofs.Choices.{le_or_lt}
use Rattle.common.proofs.Stores.{sets_then}
use Rattle.row_piece.specs.Pieces.{Over, blank_from}

-- the bytes before the text stay
pub before_text : (l : List ℕ) (i : ℕ) (v : List ℕ) (j : ℕ) → j < i → get_or (sets l i v) j 0 ≡ get_or l j 0
before_text l i [] j h = refl
before_text l i (a ∷ v) j h = before_text (set l i a) (suc i) v j (omega arith) ∙ get_or-set_other l i j a 0 (λ e. omega arith)

-- the text stands there
pub in_text : (l : List ℕ) (i : ℕ) (v : List ℕ) (j k : ℕ) → k ≡ i + j → j < length v → k < length l → get_or (sets l i v) k 0 ≡ get_or v j 0
in_text l i [] j k e h q = absurd (not-suc-le-zero h)
in_text l i (a ∷ v) zero k e h q =
    let f : k ≡ i = omega arith in
    rw f (before_text (set l i a) (suc i) v i (omega arith) ∙ get_or-set_same l i a 0 (omega arith))
in_text l i (a ∷ v) (suc j) k e h q = in_text (set l i a) (suc i) v j k (omega arith) (le_of_suc-le-suc h) (omega (arith, length-set l i a))

-- the bytes behind it stay
pub behind_text : (l : List ℕ) (i : ℕ) (v : List ℕ) (j : ℕ) → i + length v ≤ j → get_or (sets l i v) j 0 ≡ get_or l j 0
behind_text l i [] j h = refl
behind_text l i (a ∷ v) j h = behind_text (set l i a) (suc i) v j (omega arith) ∙ get_or-set_other l i j a 0 (λ e. omega arith)

-- a list that agrees everywhere is the list with the text
pub text_is : (l after : List ℕ) (i : ℕ) (v : List ℕ) → length after ≡ length l → ((j : ℕ) → j < i → get_or after j 0 ≡ get_or l j 0)
    → ((j : ℕ) → j < length v → i + j < length l → get_or after (i + j) 0 ≡ get_or v j 0) → ((j : ℕ) → i + length v ≤ j → j < length l → get_or after j 0 ≡ get_or l j 0) → after ≡ sets l i v
text_is l after i v e a b c =
    ext_get_or 0 after (sets l i v) (e ∙ sym (length-sets l i v))
    (λ j h. ⊎_elim
    (λ (p : i ≤ j). ⊎_elim
    (λ (q : i + length v ≤ j). c j q (omega arith) ∙ sym (behind_text l i v j q))
    (λ (q : j < i + length v).
    let f : j ≡ i + (j - i) = omega arith in
    ap (λ k. get_or after k 0) f ∙ b (j - i) (omega arith) (omega arith) ∙ sym (in_text l i v (j - i) j f (omega arith) (omega arith)))
    (le_or_lt (i + length v) j))
    (λ (p : j < i). a j p ∙ sym (before_text l i v j p))
    (le_or_lt i j))

-- ---- a text put in over what is behind it

-- a longer text that begins with it was stored
pub over_from : (before after : List ℕ) (at : ℕ) (v text : List ℕ) → after ≡ sets before at v → length text ≤ length v → ((j : ℕ) → j < length text → get_or v j 0 ≡ get_or text j 0)
    → Over before after at text
over_from before after at v text e h s =
    rw e
    (record {
      same = length-sets before at v;
      front = before_text before at v;
      held = λ j l q. in_text before at v j (at + j) refl (omega arith) q ∙ s j l;
    })

-- the text itself was stored
pub over_just : (before after : List ℕ) (at : ℕ) (text : List ℕ) → after ≡ sets before at text → Over before after at text
over_just before after at text e = over_from before after at text text e (omega arith) (λ j l. refl)

-- with zeros behind it, it is the text put into a row of zeros from there on
pub over_blank : (before after : List ℕ) (at n : ℕ) (text : List ℕ) → Over before after at text → length text ≡ n → blank_from (at + n) after ≡ sets (blank_from at before) at text
unfolding blank_from
over_blank before after at n text o e =
    let Z : List ℕ = replicate (length before) 0 in
    let Y : List ℕ = replicate (length after) 0 in
    let same = o.same in
    text_is (sets before at Z) (sets after (at + n) Y) at text
    (length-sets after (at + n) Y ∙ o.same ∙ sym (length-sets before at Z))
    (λ j h. before_text after (at + n) Y j (omega arith) ∙ o.front j h ∙ sym (before_text before at Z j h))
    (λ j h q. before_text after (at + n) Y (at + j) (omega arith) ∙ o.held j h (omega (arith, length-sets before at Z)))
    (λ j h q. let l : j < length before = omega (arith, length-sets before at Z) in zeros after (at + n) j (omega arith) (omega arith) ∙ sym (zeros before at j (omega arith) l))
  where
    zeros : (l : List ℕ) (i j : ℕ) → i ≤ j → j < length l → get_or (sets l i (replicate (length l) 0)) j 0 ≡ 0
    zeros l i j h q =
        in_text l i (replicate (length l) 0) (j - i) j (omega arith) (omega (arith, length-replicate {A = ℕ} (length l) 0)) q ∙ get_or-replicate (length l) (j - i) 0 0 (omega arith)

-- ---- runs

-- a run of sixteen, and the rest of it
pub over_run : (row first after : List ℕ) (at n b : ℕ) → first ≡ sets row at (replicate 16 b) → after ≡ sets first (at + 16) (replicate (n - 16) b) → 16 < n → Over row after at (replicate n b)
over_run row first after at n b e f h =
    let m : 16 + (n - 16) ≡ n = omega arith in
    let l : at + 16 ≡ at + length (replicate 16 b) = rw (length-replicate 16 b) in
    over_just row after at (replicate n b) (sets_then row at (replicate 16 b) (replicate (n - 16) b) e f l ∙ rw (replicate-append-replicate 16 (n - 16) b, m))

-- a run of at most sixteen
pub over_block : (row after : List ℕ) (at n b : ℕ) → after ≡ sets row at (replicate 16 b) → n ≤ 16 → Over row after at (replicate n b)
over_block row after at n b e h =
    let l : length (replicate n b) ≡ n = length-replicate n b in
    over_from row after at (replicate 16 b) (replicate n b) e (omega (arith, length-replicate 16 b))
    (λ j q. get_or-replicate 16 j b 0 (omega arith) ∙ sym (get_or-replicate n j b 0 (omega arith)))

-- ---- copies

-- k bytes are copied, sixteen at once
pub record Blocks (d : List ℕ) (at : ℕ) (s : List ℕ) (i n : ℕ) (row : List ℕ) (k : ℕ) : Type 0 where
  pub room : at + n + 16 ≤ length d
  pub there : i + n + 16 ≤ length s
  pub near : k < n + 16
  pub long : length row ≡ length d
  pub held : row ≡ sets d at (take k (drop i s))

pub blocks_none : (d : List ℕ) (at : ℕ) (s : List ℕ) (i n : ℕ) → at + n + 16 ≤ length d → i + n + 16 ≤ length s → Blocks d at s i n d 0
blocks_none d at s i n h l = record { room = h; there = l; near = omega arith; long = refl; held = refl }

pub blocks_more : (d : List ℕ) (at : ℕ) (s : List ℕ) (i n : ℕ) (row after : List ℕ) (k : ℕ) → Blocks d at s i n row k → k < n → after ≡ sets row (at + k) (take 16 (drop (i + k) s)) → Blocks d at s i n after (k + 16)
blocks_more d at s i n row after k c h f =
    let r = c.there in
    let block = take 16 (drop (i + k) s) in
    let l : length (take k (drop i s)) ≡ k = length-take-le k (drop i s) (simp length-drop (omega arith)) in
    let o : at + k ≡ at + length (take k (drop i s)) = rw l in
    let g : block ≡ take 16 (drop k (drop i s)) = rw (drop-drop k i s) in
    record {
      room = c.room;
      there = c.there;
      near = omega arith;
      long = ap length f ∙ length-sets row (at + k) block ∙ c.long;
      held = sets_then d at (take k (drop i s)) block c.held f o ∙ ap (λ b. sets d at (take k (drop i s) ++ b)) g ∙ ap (sets d at) (sym (take-add k 16 (drop i s)));
    }

pub blocks_end : (d : List ℕ) (at : ℕ) (s : List ℕ) (i n : ℕ) (row : List ℕ) (k : ℕ) → Blocks d at s i n row k → n ≤ k → Over d row at (take n (drop i s))
blocks_end d at s i n row k c h =
    let r = c.there in
    let q = c.near in
    let a : length (take k (drop i s)) ≡ k = length-take-le k (drop i s) (simp length-drop (omega arith)) in
    let b : length (take n (drop i s)) ≡ n = length-take-le n (drop i s) (simp length-drop (omega arith)) in
    over_from d row at (take k (drop i s)) (take n (drop i s)) c.held (omega arith)
    (λ j l. get_or-take k (drop i s) j 0 (omega arith) ∙ sym (get_or-take n (drop i s) j 0 (omega arith)))

-- the last sixteen
pub blocks_last : (d : List ℕ) (at : ℕ) (s : List ℕ) (i n : ℕ) (row after : List ℕ) (k : ℕ) → Blocks d at s i n row k → k < n → n - k ≤ 16 → after ≡ sets row (at + k) (take 16 (drop (i + k) s)) → Over d after at (take n (drop i s))
blocks_last d at s i n row after k c h l f = blocks_end d at s i n after (k + 16) (blocks_more d at s i n row after k c h f) (omega arith)

-- the first w bytes and the last w, which may overlap
pub ends : (w : ℕ) (row first after : List ℕ) (at : ℕ) (s : List ℕ) (i n : ℕ) → w ≤ n → n ≤ w + w → at + n ≤ length row → i + n ≤ length s → first ≡ sets row at (take w (drop i s))
    → after ≡ sets first ((at + n) - w) (take w (drop ((i + n) - w) s)) → after ≡ sets row at (take n (drop i s))
ends w row first after at s i n h k p q g o =
    let a = take w (drop i s) in
    let b = take w (drop ((i + n) - w) s) in
    let x : length a ≡ w = length-take-le w (drop i s) (simp length-drop (omega arith)) in
    let y : length b ≡ w = length-take-le w (drop ((i + n) - w) s) (simp length-drop (omega arith)) in
    let z : length (take n (drop i s)) ≡ n = length-take-le n (drop i s) (simp length-drop (omega arith)) in
    let m : length first ≡ length row = ap length g ∙ length-sets row at a in
    let u : length after ≡ length first = ap length o ∙ length-sets first ((at + n) - w) b in
    let f : (j : ℕ) → get_or after j 0 ≡ get_or (sets first ((at + n) - w) b) j 0 = λ j. ap (λ l. get_or l j 0) o in
    let v : (j : ℕ) → get_or first j 0 ≡ get_or (sets row at a) j 0 = λ j. ap (λ l. get_or l j 0) g in
    text_is row after at (take n (drop i s)) (u ∙ m)
    (λ j l. f j ∙ before_text first ((at + n) - w) b j (omega arith) ∙ v j ∙ before_text row at a j l)
    (λ j l r. ⊎_elim
    (λ (c : n ≤ j + w).
    let d : (i + n) - w + ((j + w) - n) ≡ i + j = omega arith in
    f (at + j) ∙ in_text first ((at + n) - w) b ((j + w) - n) (at + j) (omega arith) (omega arith) (omega arith)
    ∙ get_or-take w (drop ((i + n) - w) s) ((j + w) - n) 0 (omega arith) ∙ get_or-drop ((i + n) - w) s ((j + w) - n) 0 ∙ ap (λ y. get_or s y 0) d
    ∙ sym (get_or-take n (drop i s) j 0 (omega arith) ∙ get_or-drop i s j 0))
    (λ (c : j + w < n).
    f (at + j) ∙ before_text first ((at + n) - w) b (at + j) (omega arith) ∙ v (at + j) ∙ in_text row at a j (at + j) refl (omega arith) (omega arith)
    ∙ get_or-take w (drop i s) j 0 (omega arith) ∙ sym (get_or-take n (drop i s) j 0 (omega arith)))
    (le_or_lt n (j + w)))
    (λ j l r. f j ∙ behind_text first ((at + n) - w) b j (omega arith) ∙ v j ∙ behind_text row at a j (omega arith))
