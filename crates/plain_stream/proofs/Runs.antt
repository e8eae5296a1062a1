-- A run of text: how a loop counts it, and what a walk knows of it. Assumes nothing.
use mathlib.Core.Path.{◌≡◌, refl, ◌∙◌}
use mathlib.Core.Bool.{Bool, true, false, cond}
use mathlib.Core.List.{List, [], ◌∷◌}
use mathlib.Core.Logic.{⊎_elim}
use Prim.Native.Nat.{ℕ, zero, suc, ◌+◌, ◌-◌, ◌≤◌, ◌<◌, min}
use native.Mathlib.Omega.{arith}
use lib.ListN.{length, take, drop, get_or, length-drop, drop_of_length-le}
use lib.Seq.{take_all}
use Rattle.common.proofs.Choices.{choice, le_or_lt}
use Rattle.common.proofs.Places.{cut}
use Rattle.rules.specs.declared.Sequence.{Sequence}
use Rattle.rules.specs.Items.{is_text}
use Rattle.theorems.proofs.Reading.{left}
use Rattle.run_items.specs.Turns.{text_next}
use Rattle.run_items.proofs.Turns.{text_told}
use Rattle.plain_stream.specs.Runs.{text_run}

-- i bytes are text, and what is left makes the whole
abbrev pub Running : List ℕ → ℕ → Type 0
Running s i = text_run s ≡ i + text_run (drop i s)

module _ (s : List ℕ) (i : ℕ) (h : Running s i) (x : Bool) (e : x ≡ is_text (get_or s i 0)) where
  -- one more
  pub running_more : i < length s → x ≡ true → Running s (i + 1)
  unfolding text_run
  running_more l f = h ∙ rw (cut s i l, ← e, f) (omega arith)

  -- a byte that is none
  pub running_ends : i < length s → x ≡ false → (i ≡ text_run s) × (i ≤ length s)
  unfolding text_run
  running_ends l f = (let z : text_run (drop i s) ≡ 0 = rw (cut s i l, ← e, f) refl in omega (arith, h, z), omega arith)

-- no byte is left
pub running_over : (s : List ℕ) (i : ℕ) → Running s i → length s ≤ i → i ≤ length s → (length s ≡ text_run s) × (length s ≤ length s)
unfolding text_run
running_over s i h l m = (let z : text_run (drop i s) ≡ 0 = rw (drop_of_length-le s l) refl in omega (arith, h, z), omega arith)

-- as far as it is looked at, and no further
pub run_within : (s : List ℕ) (k : ℕ) → text_run (take k s) ≡ min (text_run s) k
unfolding text_run
run_within s zero = omega arith
run_within [] (suc k) = omega arith
run_within (b ∷ s) (suc k) = go (is_text b) (run_within s k)
  where
    go : (t : Bool) → text_run (take k s) ≡ min (text_run s) k → cond t (1 + text_run (take k s)) 0 ≡ min (cond t (1 + text_run s) 0) (suc k)
    go true e = omega (arith, e)
    go false e = omega arith

-- a run is no longer than what there is
pub run_short : (s : List ℕ) → text_run s ≤ length s
unfolding text_run
run_short [] = omega arith
run_short (b ∷ s) = let h = run_short s in choice (λ (n : ℕ). n ≤ length (b ∷ s)) (is_text b) (omega arith) (omega arith)

-- so many bytes of it as are wanted, where no more than that are looked at; sums end with the largest number
pub run_wanted : (s : List ℕ) (n k w sum : ℕ) → n ≡ text_run (take k s) → k ≡ min sum (length s) → sum ≡ min w 18446744073709551615 → length s ≤ 18446744073709551615 → n ≡ min (text_run s) w
run_wanted s n k w sum e f h l = omega (arith, e, f, h, l, run_within s k, run_short s)

-- the first byte of one that is no shorter than k and one more
pub record RunHere (s : List ℕ) (at k : ℕ) : Type 0 where
  pub inside : at < length s
  pub text : is_text (get_or s at 0) ≡ true
  pub more : k ≤ text_run (drop (at + 1) s)

pub run_here : (s : List ℕ) (at k : ℕ) → k < text_run (drop at s) → RunHere s at k
unfolding text_run
run_here s at k h = ⊎_elim (λ l. let z : text_run (drop at s) ≡ 0 = rw (drop_of_length-le s l) refl in absurd (omega (arith, z))) (λ l. go l (is_text (get_or s at 0)) refl (rw (cut s at l) at h)) (le_or_lt (length s) at)
  where
    go : at < length s → (t : Bool) → is_text (get_or s at 0) ≡ t → k < cond t (1 + text_run (drop (at + 1) s)) 0 → RunHere s at k
    go l true e h = record { inside = l; text = e; more = omega arith }
    go l false e h = absurd (omega arith)

-- where text is next there is one
pub run_some : (s : List ℕ) (at : ℕ) (q : Sequence) (x : Bool) → x ≡ text_next s at q → x ≡ true → 0 < text_run (drop at s)
unfolding text_run
run_some s at q x e f = let z = text_told s at q x e f in rw (cut s at z.inside, z.text) (omega arith)

-- the rest of a stream is all that there is from a place on
pub rest_whole : (s : List ℕ) (at : ℕ) → take (length s - at) (drop at s) ≡ drop at s
rest_whole s at = take_all (length s - at) (drop at s) (omega (arith, length-drop at s))

-- less is left behind some text bytes
pub text_less : (s : List ℕ) (at : ℕ) (q : Sequence) (k : ℕ) (x : Bool) → x ≡ text_next s at q → x ≡ true → 0 < k → left q (drop (at + k) s) < left q (drop at s)
unfolding left
text_less s at q k x e f h = let z = text_told s at q x e f in let i = length-drop (at + k) s in let j = length-drop at s in rw z.closed (omega (arith, z.inside, i, j))
