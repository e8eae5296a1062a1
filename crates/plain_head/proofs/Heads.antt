-- Laws of heads written plain: their texts, piece by piece, and the lengths of these. Assumes nothing.
use Rattle.std.proofs.Common.{◌≡◌, sym, ap, List, [], ◌∷◌, ◌++◌, ℕ, ◌+◌, arith, length, length-append}
use Rattle.common.specs.Lists.{trim}
use Rattle.common.specs.declared.writer.Writer.{Writer}
use Rattle.common.specs.Writing.{Written}
use Rattle.common.proofs.Writing.{written_both}
use Rattle.rules.specs.Commands.{Spelling, spelling, print_spelled, row_spelled}
use Rattle.rules.specs.Acts.{print, draw}
use Rattle.rules.specs.Plain.{decimal, put, put_counted}
use Rattle.plain_length.specs.Counts.{Counted}
use Rattle.number_write.proofs.Laws.{decimal_append}
use Rattle.plain_head.specs.Heads.{head_of, HeadLength}

-- the count is written before the letter
head_text : (p : Spelling) (n : ℕ) → 27 ∷ p.first ∷ p.group ∷ (decimal n [] ++ (p.letter ∷ [])) ≡ head_of p n
unfolding head_of
head_text p n = ap (λ (s : List ℕ). 27 ∷ p.first ∷ p.group ∷ s) (sym (decimal_append n [] (p.letter ∷ [])))

-- a head is written
pub wrote_head : {a b c d : Writer} (f g x n : ℕ) → Written a (27 ∷ f ∷ g ∷ []) b → Written b (decimal n []) c → Written c (x ∷ []) d
    → Written a (head_of (spelling f g x) n) d
wrote_head f g x n p q s = rw (head_text (spelling f g x) n) at (written_both p (written_both q s))

-- the length of a head, whatever its letters
length_head : (p : Spelling) (n m : ℕ) → m ≡ length (decimal n []) → 4 + m ≡ length (head_of p n)
length_head p n m e = let f = length-append (decimal n []) (p.letter ∷ []) in rw (← head_text p n) (omega arith)

-- the length of both heads
pub head_counted : (n m : ℕ) → Counted (decimal n []) 20 m → HeadLength n (4 + m)
head_counted n m c = record { print = length_head print_spelled n m c.is; row = length_head row_spelled n m c.is; small = omega (arith, c.small) }

-- ---- for the writer of a whole stream: what stands behind a command does not change its text

-- a command with payload is its head, the payload, and what stands behind
counted_append : (p : Spelling) (b s : List ℕ) → put_counted p b s ≡ head_of p (length b) ++ (b ++ s)
unfolding head_of
counted_append p b s = ap (λ (t : List ℕ). 27 ∷ p.first ∷ p.group ∷ t) (decimal_append (length b) (p.letter ∷ []) (b ++ s))

-- printed text is a head, the payload, and what stands behind
pub print_append : (b s : List ℕ) → put (print b) s ≡ head_of print_spelled (length b) ++ (b ++ s)
unfolding put
print_append b s = counted_append print_spelled b s

-- a row is a head, its bytes up to the last nonzero one, and what stands behind
pub row_append : (b s : List ℕ) → put (draw b) s ≡ head_of row_spelled (length (trim b)) ++ (trim b ++ s)
unfolding put
row_append b s = counted_append row_spelled (trim b) s
