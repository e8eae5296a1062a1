-- What a text holds, written line by line. Assumes nothing.
use Rattle.std.proofs.Common.{◌≡◌, refl, ap, ◌∙◌, ℕ, ◌/◌, ◌≤◌, length, List, [], ◌∷◌, ◌++◌, take}
use Rattle.common.specs.declared.writer.Writer.{Writer}
use Rattle.common.specs.Writing.{Written}
use Rattle.common.proofs.Writing.{written_none, written_both}
use Rattle.rules.specs.declared.State.{State}
use Rattle.rules.specs.Forms.{parked_of, JOB}
use Rattle.rules.specs.Park.{give_out}
use Rattle.rules.specs.Report.{line}
use Rattle.rules.specs.Texts.{put_many, put_position, put_row}
use Rattle.report_line.proofs.Texts.{line_append}
use Rattle.park_text.proofs.Texts.{many_append, position_append}
use Rattle.unpark_say.specs.Said.{names, member_lines, holds}

-- the lines of members in front of s are those lines, and then s
members_front : (l : List (List ℕ)) (ns s : List ℕ) → member_lines l ns s ≡ member_lines l ns [] ++ s
unfolding member_lines
members_front [] ns s = refl
members_front (name ∷ l) [] s = refl
members_front (name ∷ l) (n ∷ ns) s = ap (line name (n ∷ [])) (members_front l ns s) ∙ line_append name (n ∷ []) (member_lines l ns []) s

-- one member, and those behind it
pub written_member : {a b c : Writer} (name : List ℕ) (n : ℕ) (more : List (List ℕ)) (l : List ℕ) → Written a (line name (n ∷ []) []) b → Written b (member_lines more l []) c → Written a (member_lines (name ∷ more) (n ∷ l) []) c
unfolding member_lines
written_member name n more l p q = rw (line_append name (n ∷ []) [] (member_lines more l [])) (written_both p q)

-- none is left
pub members_written : (a : Writer) → a.at ≤ length a.room.now → Written a (member_lines [] [] []) a
unfolding member_lines
members_written a h = written_none a h

-- the members, the positions and the row
pub written_held : {a b c d : Writer} (w h : ℕ) (t : State) → Written a (member_lines names (give_out JOB.members (parked_of w h t)) []) b
    → Written b (put_many put_position (take t.core.depth t.core.stack) []) c → Written c (put_row (take (w / 8) t.core.seed) []) d
    → Written a (holds (parked_of w h t)) d
unfolding holds
written_held w h t p q r =
    let G : List ℕ = give_out JOB.members (parked_of w h t) in
    let P = take t.core.depth t.core.stack in
    let R : List ℕ = put_row (take (w / 8) t.core.seed) [] in
    rw (members_front names G (put_many put_position P R), many_append put_position position_append P [] R) (written_both p (written_both q r))
