-- Laws of commands written plain: their texts, piece by piece, and the lengths of these. Assumes nothing.
use Rattle.std.proofs.Common.{◌≡◌, sym, ap, List, [], ◌∷◌, ◌++◌, ℕ, ◌+◌, arith, length-append}
use Rattle.common.specs.declared.writer.Writer.{Writer}
use Rattle.common.specs.Writing.{Written}
use Rattle.common.proofs.Writing.{written_both}
use Rattle.rules.specs.declared.Value.{Value}
use Rattle.rules.specs.declared.Kind.{Kind}
use Rattle.rules.specs.Commands.{spelled}
use Rattle.rules.specs.Acts.{order}
use Rattle.rules.specs.Plain.{put_used, put}
use Rattle.plain_length.specs.Counts.{Counted}
use Rattle.number_write.proofs.Laws.{used_append}

-- the text of a command: three bytes, its value, and its letter
order_text : (k : Kind) (v : Value) → 27 ∷ (spelled k).first ∷ (spelled k).group ∷ (put_used k v [] ++ ((spelled k).letter ∷ [])) ≡ put (order k v) []
unfolding put
order_text k v = ap (λ (s : List ℕ). 27 ∷ (spelled k).first ∷ (spelled k).group ∷ s) (sym (used_append k v [] ((spelled k).letter ∷ [])))

-- a command is written
pub wrote_order : {a b c d : Writer} (k : Kind) (v : Value) → Written a (27 ∷ (spelled k).first ∷ (spelled k).group ∷ []) b → Written b (put_used k v []) c
    → Written c ((spelled k).letter ∷ []) d → Written a (put (order k v) []) d
wrote_order k v p q s = rw (order_text k v) at (written_both p (written_both q s))

-- its length
pub order_counted : (k : Kind) (v : Value) (m : ℕ) → Counted (put_used k v []) 26 m → Counted (put (order k v) []) 30 (4 + m)
order_counted k v m c =
    let f = length-append (put_used k v []) ((spelled k).letter ∷ []) in
    record { is = rw (← order_text k v) (omega (arith, c.is)); small = omega (arith, c.small) }

-- for the writer of a whole stream: a command is its text, and what stands behind
pub order_append : (k : Kind) (v : Value) (s : List ℕ) → put (order k v) s ≡ put (order k v) [] ++ s
unfolding put
order_append k v s = ap (λ (t : List ℕ). 27 ∷ (spelled k).first ∷ (spelled k).group ∷ t) (used_append k v ((spelled k).letter ∷ []) s)
