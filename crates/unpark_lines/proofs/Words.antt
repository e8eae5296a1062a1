-- A word at the front of the bytes. Assumes nothing.
use Rattle.std.proofs.Common.{◌≡◌, ◌≢◌, ◌+◌, ℕ, Bool, true, false, List, [], ◌∷◌, ◌++◌, Option, Some, None, cond, eqb, length, take, drop, Bor, refl, ap, ◌∙◌, sym, subst}
use borrow.Author.Tests.{eq-eqb, eqb-true}
use Rattle.std.specs.Option.{MatchOption}
use Rattle.std.specs.Cmp.Lexicographic.{pointwise}
use Rattle.std.proofs.lemmas.Bool.Decides.{Decides-eqb}
use Rattle.std.proofs.lemmas.Slice.Eq.{strip_prefix_is}
use Rattle.rules.specs.Texts.{wrong, found, then, expect, expect_all}

-- the word stands there
word_there : (w t : List ℕ) → expect_all w (w ++ t) ≡ found true t
unfolding expect_all expect then
word_there [] t = refl
word_there (e ∷ w) t = rw (eq-eqb e e refl) (word_there w t)

-- another stands there
word_absent : (w s : List ℕ) → ((t : List ℕ) → s ≢ w ++ t) → expect_all w s ≡ wrong
unfolding expect_all expect then
word_absent [] s h = absurd (h s refl)
word_absent (e ∷ w) [] h = refl
word_absent (e ∷ w) (b ∷ s) h = go (λ k. word_absent w s k) (eqb b e) refl
  where
    go : (((t : List ℕ) → s ≢ w ++ t) → expect_all w s ≡ wrong) → (t : Bool) → eqb b e ≡ t → then (cond t (found true s) wrong) (λ _ r. expect_all w r) ≡ wrong
    go more true q = let z : b ≡ e = eqb-true b e q in more (λ t k. h t (λ i. z i ∷ k i))
    go more false q = refl

module _ (s w : List ℕ) (r : Option (Bor (List ℕ)))
    (m : MatchOption r (pointwise eqb (take (length w) s) w ≡ false) (λ x. (pointwise eqb (take (length w) s) w ≡ true) × (x.now ≡ drop (length w) s) × (length x.now + length w ≡ length s))) where
  -- what is behind it is left
  pub word_read : (x : Bor (List ℕ)) → r ≡ Some x → found true x.now ≡ expect_all w s
  word_read x e =
      let k : MatchOption (Some x) ((t : List ℕ) → s ≢ w ++ t) (λ x. s ≡ w ++ x.now) = subst (λ (o : Option (Bor (List ℕ))). MatchOption o ((t : List ℕ) → s ≢ w ++ t) (λ x. s ≡ w ++ x.now)) e (strip_prefix_is Decides-eqb s w r m) in
      sym (ap (expect_all w) k ∙ word_there w x.now)

  -- or it is not there
  pub no_word : r ≡ None → wrong ≡ expect_all w s
  no_word e =
      let k : MatchOption {T = Bor (List ℕ)} None ((t : List ℕ) → s ≢ w ++ t) (λ x. s ≡ w ++ x.now) = subst (λ (o : Option (Bor (List ℕ))). MatchOption o ((t : List ℕ) → s ≢ w ++ t) (λ x. s ≡ w ++ x.now)) e (strip_prefix_is Decides-eqb s w r m) in
      sym (word_absent w s k)
