-- A list read piece by piece into an array. Assumes nothing.
use Rattle.std.proofs.Common.{◌≡◌, ℕ, ◌+◌, ◌-◌, ◌<◌, ◌≤◌, Bool, true, false, cond, suc, List, [], ◌∷◌, ◌++◌, length, get_or, drop, set, refl, sym, ap, ◌∙◌, append_assoc, length-append, length-set, arith}
use mathlib.Core.List.{append-nil}
use native.Mathlib.Nat.{add-zero, zero-add}
use Rattle.std.proofs.Common.{add-one}
use lib.ListN.{drop_of_length-le}
use lib.Seq.{sets, sets-eq, set_out}
use lib.Seq.{drop-cons}
use Rattle.rules.specs.Texts.{Found, wrong, found, then, many, expect, field, fitting, numbers}
use Rattle.unpark_lines.specs.Answers.{stored, kind_field}

-- what stands at i, and what follows
cut_of : {A : Type 0} (s : List A) (i : ℕ) (d : A) → i < length s → drop i s ≡ get_or s i d ∷ drop (i + 1) s
cut_of s i d h = rw (add-one, drop-cons s i d) refl

-- ---- one reader after another

-- what is found is handed on
pub then_found : {A B : Type 0} (x : Found A) (a : A) (t : List ℕ) (k : A → List ℕ → Found B) → found a t ≡ x → then x k ≡ k a t
unfolding then
then_found x a t k e = rw (← e) refl

-- what is wrong stays so
pub then_wrong : {A B : Type 0} (x : Found A) (k : A → List ℕ → Found B) → wrong ≡ x → then x k ≡ wrong
unfolding then
then_wrong x k e = rw (← e) refl

-- what is found as it stands
then_same : {A : Type 0} (x : Found (List A)) → x ≡ then x (λ l t. found l t)
unfolding then
then_same wrong = refl
then_same (found a t) = refl

-- one more piece before the others, behind those that are done
then_snoc : {A : Type 0} (x : Found (List A)) (done : List A) (a : A) → then (then x (λ l t. found (a ∷ l) t)) (λ l t. found (done ++ l) t) ≡ then x (λ l t. found (done ++ (a ∷ []) ++ l) t)
unfolding then
then_snoc wrong done a = refl
then_snoc (found l t) done a = ap (λ q. found q t) (sym (append_assoc done (a ∷ []) l))

-- one more behind what is stored
sets_last : {A : Type 0} (d : List A) (i : ℕ) (l : List A) (a : A) → set (sets d i l) (i + length l) a ≡ sets d i (l ++ (a ∷ []))
sets_last d i [] a = rw add-zero refl
sets_last d i (y ∷ l) a =
    let e : i + suc (length l) ≡ suc i + length l = omega arith in
    rw e (sets_last (set d i y) (suc i) l a)

-- ---- between the pieces: those that are done are stored, and with those that are left they are all
pub record Going {A : Type 0} (want rest : Found (List A)) (blank held : List A) (i : ℕ) : Type 0 where
  pub done : List A
  pub count : length done ≡ i
  pub kept : length held ≡ length blank
  pub stored : held ≡ sets blank 0 done
  pub goes : want ≡ then rest (λ l t. found (done ++ l) t)

-- none is done
pub going_start : {A : Type 0} (want : Found (List A)) (blank : List A) → Going want want blank blank 0
going_start want blank = record { done = []; count = refl; kept = refl; stored = refl; goes = then_same want }

module _ {A : Type 0} {want rest : Found (List A)} {blank held : List A} {i : ℕ} (g : Going want rest blank held i) where
  -- one more is done
  pub going_step : (rest' : Found (List A)) (a : A) → rest ≡ then rest' (λ l t. found (a ∷ l) t) → Going want rest' blank (set held i a) (i + 1)
  going_step rest' a e =
      let c = g.count in
      let z : 0 + length g.done ≡ length g.done = omega arith in
      record {
        done = g.done ++ (a ∷ []);
        count = simp length-append (omega arith);
        kept = length-set held i a ∙ g.kept;
        stored = rw (← c, ← z, g.stored) (sets_last blank 0 g.done a);
        goes = g.goes ∙ ap (λ x. then x (λ l t. found (g.done ++ l) t)) e ∙ then_snoc rest' g.done a;
      }

  -- the next is wrong
  pub going_wrong : wrong ≡ rest → wrong ≡ want
  going_wrong e = sym (g.goes ∙ then_wrong rest (λ l t. found (g.done ++ l) t) e)

  -- none is left
  pub going_stop : (t : List ℕ) → found [] t ≡ rest → found held t ≡ stored blank want
  going_stop t e =
      let w : want ≡ found g.done t = g.goes ∙ then_found rest [] t (λ l t. found (g.done ++ l) t) e ∙ ap (λ l. found l t) (append-nil g.done) in
      rw w (ap (λ l. found l t) g.stored)

  -- none is left, and the array is full
  pub going_full : (t : List ℕ) → length blank ≡ i → found [] t ≡ rest → found held t ≡ want
  going_full t h e =
      let c = g.count in
      let w : want ≡ found g.done t = g.goes ∙ then_found rest [] t (λ l t. found (g.done ++ l) t) e ∙ ap (λ l. found l t) (append-nil g.done) in
      let f = sets-eq g.done blank 0 (rw (zero-add (length g.done)) (omega arith)) in
      let n : drop (length g.done) blank ≡ [] = drop_of_length-le blank (omega arith) in
      let k : sets blank 0 g.done ≡ g.done = rw zero-add at f ∙ ap (λ l. g.done ++ l) n ∙ append-nil g.done in
      rw w (ap (λ l. found l t) (g.stored ∙ k))

-- ---- n readers of one kind

module _ {A : Type 0} (f : List ℕ → Found A) where
  -- one of them, and those behind it
  many_suc : (n : ℕ) (s : List ℕ) → many f (suc n) s ≡ then (f s) (λ a r. then (many f n r) (λ l q. found (a ∷ l) q))
  unfolding many
  many_suc n s = refl

  -- none of them
  many_zero : (s : List ℕ) → many f 0 s ≡ found [] s
  unfolding many
  many_zero s = refl

  -- none is read yet
  pub many_start : (n : ℕ) (s : List ℕ) (blank : List A) → Going (many f n s) (many f (n - 0) s) blank blank 0
  many_start n s blank = let e : n - 0 ≡ n = omega arith in rw e (going_start (many f n s) blank)

  module _ {want : Found (List A)} {blank held : List A} (n i : ℕ) (s : List ℕ) (g : Going want (many f (n - i) s) blank held i) where
    -- the next and those behind it
    many_left : i < n → many f (n - i) s ≡ then (f s) (λ a r. then (many f (n - (i + 1)) r) (λ l q. found (a ∷ l) q))
    many_left h = let e : n - i ≡ suc (n - (i + 1)) = omega arith in rw e (many_suc (n - (i + 1)) s)

    -- one more
    pub many_again : i < n → (a : A) (t : List ℕ) → found a t ≡ f s → Going want (many f (n - (i + 1)) t) blank (set held i a) (i + 1)
    many_again h a t q =
        going_step g (many f (n - (i + 1)) t) a
        (many_left h ∙ then_found (f s) a t (λ a r. then (many f (n - (i + 1)) r) (λ l q. found (a ∷ l) q)) q)

    -- one more, which has no place
    pub many_past : i < n → (a : A) (t : List ℕ) → found a t ≡ f s → length blank ≤ i → Going want (many f (n - (i + 1)) t) blank held (i + 1)
    many_past h a t q l = let k = g.kept in rw (set_out held i a (omega arith)) at (many_again h a t q)

    -- one that is wrong
    pub many_wrong : i < n → wrong ≡ f s → wrong ≡ want
    many_wrong h q = going_wrong g (sym (many_left h ∙ then_wrong (f s) (λ a r. then (many f (n - (i + 1)) r) (λ l q. found (a ∷ l) q)) q))

    -- all of them
    pub many_end : n ≤ i → found held s ≡ stored blank want
    many_end h = let e : n - i ≡ 0 = omega arith in going_stop g s (rw e (sym (many_zero s)))

-- ---- the fields of a line

-- a field that must fit, and what follows
fit_then : {B : Type 0} (x : Found ℕ) (fits : ℕ → Bool) (k : ℕ → List ℕ → Found B)
    → then x (λ n r. cond (fits n) (k n r) wrong) ≡ then (then x (λ n r. cond (fits n) (found n r) wrong)) k
unfolding then
fit_then wrong fits k = refl
fit_then (found n r) fits k = go (fits n)
  where
    go : (t : Bool) → cond t (k n r) wrong ≡ then (cond t (found n r) wrong) k
    go true = refl
    go false = refl

-- the first field and those behind it
numbers_cons : (flag : Bool) (l : List Bool) (s : List ℕ) → numbers (flag ∷ l) s ≡ then (kind_field flag s) (λ n r. then (numbers l r) (λ ns q. found (n ∷ ns) q))
unfolding numbers kind_field
numbers_cons flag l s = fit_then (field s) (fitting flag) (λ n r. then (numbers l r) (λ ns q. found (n ∷ ns) q))

-- behind the last there is LF
numbers_nil : (s : List ℕ) → numbers [] s ≡ then (expect 10 s) (λ _ r. found [] r)
unfolding numbers
numbers_nil s = refl

module _ {want : Found (List ℕ)} {blank held : List ℕ} (flags : List Bool) (i : ℕ) (s : List ℕ) (g : Going want (numbers (drop i flags) s) blank held i) where
  -- the next field and those behind it
  left : i < length flags → numbers (drop i flags) s ≡ then (kind_field (get_or flags i false) s) (λ n r. then (numbers (drop (i + 1) flags) r) (λ ns q. found (n ∷ ns) q))
  left h = ap (λ l. numbers l s) (cut_of flags i false h) ∙ numbers_cons (get_or flags i false) (drop (i + 1) flags) s

  -- one more field
  pub numbers_again : i < length flags → (n : ℕ) (t : List ℕ) → found n t ≡ kind_field (get_or flags i false) s → Going want (numbers (drop (i + 1) flags) t) blank (set held i n) (i + 1)
  numbers_again h n t q =
      going_step g (numbers (drop (i + 1) flags) t) n
      (left h ∙ then_found (kind_field (get_or flags i false) s) n t (λ n r. then (numbers (drop (i + 1) flags) r) (λ ns q. found (n ∷ ns) q)) q)

  -- no field, or one that does not fit
  pub numbers_wrong : i < length flags → wrong ≡ kind_field (get_or flags i false) s → wrong ≡ want
  numbers_wrong h q = going_wrong g (sym (left h ∙ then_wrong (kind_field (get_or flags i false) s) (λ n r. then (numbers (drop (i + 1) flags) r) (λ ns q. found (n ∷ ns) q)) q))

  -- no flag is left
  last : length flags ≤ i → numbers (drop i flags) s ≡ then (expect 10 s) (λ _ r. found [] r)
  last h = ap (λ l. numbers l s) (drop_of_length-le flags h) ∙ numbers_nil s

  -- no LF
  pub numbers_unended : length flags ≤ i → wrong ≡ expect 10 s → wrong ≡ want
  numbers_unended h q = going_wrong g (sym (last h ∙ then_wrong (expect 10 s) (λ _ r. found [] r) q))

  -- all fields and LF
  pub numbers_end : length flags ≡ i → length blank ≡ i → (t : List ℕ) → found true t ≡ expect 10 s → found held t ≡ want
  numbers_end h b t q = going_full g t b (sym (last (omega arith) ∙ then_found (expect 10 s) true t (λ _ r. found [] r) q))
