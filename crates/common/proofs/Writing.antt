-- What a writer writes, piece by piece. Assumes nothing.
use Rattle.std.proofs.Common.{◌≡◌, ◌∙◌, ◌≤◌, refl, ap, List, [], ◌++◌, ℕ, length, min, arith}
use lib.Seq.{length-sets}
use Rattle.common.specs.declared.writer.Writer.{Writer}
use Rattle.common.specs.Writing.{Written}
use Rattle.common.proofs.Stores.{wrote_none, wrote_both}

-- nothing is written
pub written_none : (a : Writer) → a.at ≤ length a.room.now → Written a [] a
written_none a h = record { same = refl; wrote = wrote_none h }

-- nor is it where a place beyond the room is brought to its end
pub written_end : (a b : Writer) → b.room.ghost_name ≡ a.room.ghost_name → b.room.now ≡ a.room.now → b.at ≡ min a.at (length a.room.now) → Written a [] b
written_end a b s e m = record { same = s; wrote = record { next = omega (arith, m); held = e } }

-- behind what is written the place is in the room
pub written_inside : {a b : Writer} {w : List ℕ} → Written a w b → b.at ≤ length b.room.now
written_inside {a} {b} {w} p =
    let e : length b.room.now ≡ length a.room.now = ap length p.wrote.held ∙ length-sets a.room.now a.at w in
    omega (arith, p.wrote.next, e)

-- one text is written, and another behind it
pub written_both : {a b c : Writer} {v w : List ℕ} → Written a v b → Written b w c → Written a (v ++ w) c
written_both p q = record { same = q.same ∙ p.same; wrote = wrote_both p.wrote q.wrote }
