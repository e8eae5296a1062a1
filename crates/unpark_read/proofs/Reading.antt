-- A text read line by line is what the rules read. Assumes nothing.
use Rattle.std.proofs.Common.{◌≡◌, ℕ, zero, suc, ◌/◌, Bool, true, false, List, [], ◌∷◌, Some, length, get_or, replicate, refl, sym, ap, ◌∙◌}
use mathlib.Core.List.{map}
use lib.Seq.{sets}
use Rattle.common.specs.Lists.{pad, is_nil}
use Rattle.rules.specs.declared.Spot.{Spot}
use Rattle.rules.specs.declared.State.{State}
use Rattle.rules.specs.declared.Refusal.TheVariants.{TextForm}
use Rattle.rules.specs.Given.{Unparked}
use Rattle.rules.specs.Measure.{row_holds, stack_holds, origin}
use Rattle.rules.specs.Texts.{Found, wrong, found, then, many, line_of, position, put_position, row}
use Rattle.rules.specs.Forms.{Parked, flags_of, JOB}
use Rattle.rules.specs.Park.{of_numbers, row_bytes, depth_of, lines_of, stack_with, of_lines, shape, lines, judged, read, read_refused, unpark}
use Rattle.park_laws.specs.Facts.{Fit, end, fit}
use Rattle.park_laws.proofs.Written.{line_inv, many_inv, position_inv, row_inv}
use Rattle.park_laws.proofs.Laws.{job_lawful}
use Rattle.unpark_lines.specs.Answers.{stored, low_spot, low_position}
use Rattle.unpark_read.specs.Held.{held, sixteen, judged_parked, held_parked, judged_text, last_judged, judged_read}
use Rattle.unpark_read.proofs.Holding.{relist, stack_held, seed_held, held_judged}

-- ---- the positions, in their array

-- positions, lowered one by one, are lowered all
all_low : (n : ℕ) (s : List ℕ) → many low_position n s ≡ then (many position n s) (λ l r. found (map low_spot l) r)
unfolding many then low_position
all_low zero s = refl
all_low (suc n) s = first (position s) (λ r. all_low n r)
  where
    behind : (p : Spot) (y : Found (List Spot)) → then (then y (λ l r. found (map low_spot l) r)) (λ l q. found (low_spot p ∷ l) q) ≡ then (then y (λ l q. found (p ∷ l) q)) (λ l r. found (map low_spot l) r)
    behind p wrong = refl
    behind p (found l q) = refl

    first : (x : Found Spot) → ((r : List ℕ) → many low_position n r ≡ then (many position n r) (λ l q. found (map low_spot l) q))
        → then (then x (λ p r. found (low_spot p) r)) (λ a r. then (many low_position n r) (λ l q. found (a ∷ l) q)) ≡ then (then x (λ a r. then (many position n r) (λ l q. found (a ∷ l) q))) (λ l r. found (map low_spot l) r)
    first wrong h = refl
    first (found p r) h = ap (λ y. then y (λ l q. found (low_spot p ∷ l) q)) (h r) ∙ behind p (many position n r)

abbrev positions : ℕ → List ℕ → Found (List Spot)
positions n s = stored (replicate stack_holds origin) (many low_position n s)

-- what they are, and what is left behind them
record Stacked (n : ℕ) (s : List ℕ) (stack : List Spot) (t : List ℕ) : Type 0 where
  spots : List Spot
  is : many position n s ≡ found spots t
  kept : stack ≡ stack_held spots

stacked : (n : ℕ) (s : List ℕ) (stack : List Spot) (t : List ℕ) → found stack t ≡ positions n s → Stacked n s stack t
unfolding then
stacked n s stack t e = go (many position n s) refl (e ∙ ap (stored (replicate stack_holds origin)) (all_low n s))
  where
    go : (x : Found (List Spot)) → many position n s ≡ x → found stack t ≡ stored (replicate stack_holds origin) (then x (λ l r. found (map low_spot l) r)) → Stacked n s stack t
    go wrong p q = absurd (cc)
    go (found spots r) p q = let z : r ≡ t = cc in let h : stack ≡ stack_held spots = cc in record { spots = spots; is = p ∙ ap (found spots) z; kept = h }

no_stack : (n : ℕ) (s : List ℕ) → wrong ≡ positions n s → many position n s ≡ wrong
unfolding then
no_stack n s e = go (many position n s) refl (e ∙ ap (stored (replicate stack_holds origin)) (all_low n s))
  where
    go : (x : Found (List Spot)) → many position n s ≡ x → wrong ≡ stored (replicate stack_holds origin) (then x (λ l r. found (map low_spot l) r)) → many position n s ≡ wrong
    go wrong p q = p
    go (found spots r) p q = absurd (cc)

-- ---- the last line
module _ (numbers : List ℕ) (stack : List Spot) where
  -- it is not there
  pub no_row : (w : Found (List ℕ)) → wrong ≡ stored (replicate row_holds 0) w → read_refused TextForm ≡ last_judged numbers stack w
  unfolding last_judged
  no_row wrong e = refl
  no_row (found bytes t) e = absurd (cc)

  module _ (seed t : List ℕ) where
    -- something stands behind it
    pub more : (w : Found (List ℕ)) → found seed t ≡ stored (replicate row_holds 0) w → is_nil t ≡ false → read_refused TextForm ≡ last_judged numbers stack w
    unfolding last_judged
    more wrong e n = absurd (cc)
    more (found bytes []) e n = let z : t ≡ [] = cc in absurd (cc (ap is_nil z))
    more (found bytes (b ∷ q)) e n = refl

    -- nothing does
    pub whole : (w : Found (List ℕ)) → found seed t ≡ stored (replicate row_holds 0) w → is_nil t ≡ true → judged_text numbers stack seed ≡ last_judged numbers stack w
    unfolding last_judged
    whole wrong e n = absurd (cc)
    whole (found bytes []) e n = let z : seed ≡ sets (replicate row_holds 0) 0 bytes = cc in ap (judged_text numbers stack) z
    whole (found bytes (b ∷ q)) e n = let z : t ≡ b ∷ q = cc in absurd (cc (ap is_nil z))

  -- what the numbers, the positions and the row say is judged
  pub formed : (seed : List ℕ) (t : State) → t ≡ held (of_numbers JOB (sixteen numbers) stack seed).state
      → judged_read (Some (record { wide = get_or numbers 0 0; high = get_or numbers 1 0; state = t })) ≡ judged_text numbers stack seed
  unfolding judged_read judged_text held_parked
  formed seed t e = rw e refl

-- ---- the numbers of a line JOB
abbrev JOBs : List Bool
JOBs = flags_of JOB.members

record Numbered (ns : List ℕ) : Type 0 where
  all : sixteen ns ≡ ns
  depth : get_or ns 15 0 ≡ depth_of (shape JOB ns)
  wide : get_or ns 0 0 / 8 ≡ row_bytes (shape JOB ns)

numbered : {ns : List ℕ} → Fit JOBs ns → Numbered ns
numbered (fit _ (fit _ (fit _ (fit _ (fit _ (fit _ (fit _ (fit _ (fit _ (fit _ (fit _ (fit _ (fit _ (fit _ (fit _ (fit _ end)))))))))))))))) = record { all = refl; depth = refl; wide = refl }

-- the same numbers, with other lists
relisted : {ns : List ℕ} → Fit JOBs ns → (stack stack' : List Spot) (seed seed' : List ℕ) → of_numbers JOB ns stack seed ≡ relist stack seed (of_numbers JOB ns stack' seed')
relisted (fit _ (fit _ (fit _ (fit _ (fit _ (fit _ (fit _ (fit _ (fit _ (fit _ (fit _ (fit _ (fit _ (fit _ (fit _ (fit _ end)))))))))))))))) stack stack' seed seed' = refl

-- the lines of a text, one after the other
all_lines : (s : List ℕ) {ns bytes s₁ s₂ s₃ : List ℕ} {spots : List Spot} → line_of JOB.word JOBs s ≡ found ns s₁ → many position (depth_of (shape JOB ns)) s₁ ≡ found spots s₂
    → row (row_bytes (shape JOB ns)) s₂ ≡ found bytes s₃ → lines JOB s ≡ found (lines_of ns spots bytes) s₃
unfolding lines then
all_lines s a b c = rw (a, b, c) refl

module _ (s : List ℕ) where
  -- no line JOB
  pub no_line : wrong ≡ line_of JOB.word JOBs s → read_refused TextForm ≡ unpark s
  unfolding unpark read lines judged then
  no_line e = rw (← e) refl

  module _ (ns p : List ℕ) (e : found ns p ≡ line_of JOB.word JOBs s) where
    fits : Fit JOBs ns
    fits = (line_inv JOB.word JOBs s (sym e)).0

    told : Numbered ns
    told = numbered fits

    -- not so many lines POS
    pub no_spots : wrong ≡ positions (get_or ns 15 0) p → read_refused TextForm ≡ unpark s
    unfolding unpark read lines judged then
    no_spots q = let z = no_stack (get_or ns 15 0) p q in rw (← e, ← told.depth, z) refl

    -- the form is right up to the row, and what the row is decides
    pub last_read : (stack : List Spot) (k : List ℕ) → found stack k ≡ positions (get_or ns 15 0) p → (r : Unparked) → r ≡ last_judged ns stack (row (get_or ns 0 0 / 8) k) → r ≡ unpark s
    unfolding unpark read lines judged then last_judged judged_text judged_parked
    last_read stack k f r h = go (row (get_or ns 0 0 / 8) k) refl h
      where
        g : Stacked (get_or ns 15 0) p stack k
        g = stacked (get_or ns 15 0) p stack k f

        lines_are : {bytes t : List ℕ} → row (get_or ns 0 0 / 8) k ≡ found bytes t → lines JOB s ≡ found (lines_of ns g.spots bytes) t
        lines_are w = all_lines s (sym e) (ap (λ n. many position n p) (sym told.depth) ∙ g.is) (ap (λ n. row n k) (sym told.wide) ∙ w)

        go : (w : Found (List ℕ)) → row (get_or ns 0 0 / 8) k ≡ w → r ≡ last_judged ns stack w → r ≡ unpark s
        go wrong w h = rw (← e, ← told.depth, g.is, ← told.wide, w) h
        go (found bytes (b ∷ t)) w h = rw (lines_are w) h
        go (found bytes []) w h =
            let spots : List Spot = g.spots in
            let j : Parked = of_lines JOB (lines_of ns spots bytes) in
            let t = job_lawful.taken ns (stack_with spots) (pad row_holds bytes) fits in
            let d : length spots ≡ depth_of j = (many_inv position put_position position_inv (get_or ns 15 0) p g.is).0 ∙ told.depth ∙ sym t.depth in
            let c : length bytes ≡ row_bytes j = (row_inv (get_or ns 0 0 / 8) k w).0 ∙ told.wide ∙ sym t.wide in
            let a : of_numbers JOB (sixteen ns) stack (seed_held bytes) ≡ relist (stack_held spots) (seed_held bytes) j =
            ap (λ x. of_numbers JOB x stack (seed_held bytes)) told.all ∙ ap (λ x. of_numbers JOB ns x (seed_held bytes)) g.kept
            ∙ relisted fits (stack_held spots) (stack_with spots) (seed_held bytes) (pad row_holds bytes) in
            let z = held_judged j spots bytes d c t.stacked t.seeded in
            h ∙ ap (λ x. judged_parked (held_parked x)) a ∙ z ∙ sym (rw (lines_are w) refl)
