-- How long what is said can be: a room of 1,979 bytes always has it whole. Assumes nothing.
use mathlib.Core.Path.{◌≡◌, refl, ap}
use mathlib.Core.Bool.{Bool, true, false, cond}
use mathlib.Core.List.{List, [], ◌∷◌}
use Prim.Native.Nat.{ℕ, ◌+◌, ◌≤◌}
use native.Mathlib.Omega.{arith}
use lib.ListN.{length, length-append, take}
use borrow.Author.Tests.{ltb-true}
use Rattle.rules.specs.declared.Refusal.{Refusal}
use Rattle.rules.specs.declared.Refusal.TheVariants.{StreamLength}
use Rattle.rules.specs.Given.{Verdict}
use Rattle.rules.specs.Given.{Carried, Refused}
use Rattle.rules.specs.Measure.{longest_stream, is_too_long}
use Rattle.rules.specs.Texts.{put_many, put_position, put_row}
use Rattle.rules.specs.Forms.{Parked, JOB}
use Rattle.rules.specs.Park.{give_out, depth_of, row_bytes, print, lines_from, write, Answer, given, not_of_form, not_sound, read, answered, unpark}
use Rattle.rules.specs.Plain.{decimal}
use Rattle.rules.specs.Report.{fields}
use Rattle.report_verdict.specs.Said.{said_by}
use Rattle.report_laws.proofs.Bound.{number_length, refused_most}
use Rattle.report_laws.proofs.Whole.{held}
use Rattle.park_laws.specs.Statements.{longest_text}
use Rattle.park_laws.proofs.Theorems.{read_text_is_written, texts_fit}
use Rattle.unpark_say.specs.Said.{names, member_lines, holds, held_by, verdict_of, longest_said, SaidWhole, LongTextsDoNotRead}

-- ---- how long
abbrev letters : List (List ℕ) → ℕ
letters [] = 0
letters (name ∷ l) = length name + letters l

-- lines of members against one line of their numbers: the names, and LF behind each
members_length : (l : List (List ℕ)) (ns s : List ℕ) → length l ≡ length ns → length (member_lines l ns s) + 1 ≡ letters l + length ns + length (fields ns s)
unfolding member_lines fields
members_length [] [] s e = omega arith
members_length [] (n ∷ ns) s e = absurd (omega arith)
members_length (name ∷ l) [] s e = absurd (omega arith)
members_length (name ∷ l) (n ∷ ns) s e =
    let more = member_lines l ns s in
    let i = members_length l ns s (omega arith) in
    let a = length-append name (9 ∷ decimal n (10 ∷ more)) in
    let b = number_length n (10 ∷ more) in
    let c = number_length n (fields ns s) in
    omega arith

-- what is held is 74 bytes longer than its text
held_length : (j : Parked) → length (holds j) ≡ length (write JOB j) + 74
unfolding holds write print lines_from
held_length j =
    let rest : List ℕ = put_many put_position (take (depth_of j) j.state.core.stack) (put_row (take (row_bytes j) j.state.core.seed) []) in
    let a = members_length names (give_out JOB.members j) rest refl in
    let b = length-append JOB.word (fields (give_out JOB.members j) rest) in
    omega arith

-- ---- a text that reads
refused_not : {why : Refusal} → Refused why ≡ Carried → ⊥
refused_not e = let z : ◌≡◌ {A = ℕ} 0 1 = cc in omega arith

-- it is at most the longest, and what it holds 74 bytes longer
read_most : (s : List ℕ) → (unpark s).verdict ≡ Carried → (length s ≤ longest_text) × (length (held_by (unpark s)) ≤ longest_said)
unfolding unpark
read_most s e = go (read JOB s) refl e
  where
    go : (a : Answer) → read JOB s ≡ a → (answered a).verdict ≡ Carried → (length s ≤ longest_text) × (length (held_by (answered a)) ≤ longest_said)
    go (given j) q k =
        let t = read_text_is_written s j q in
        let m = texts_fit j t.parkable in
        let l = ap length t.text in
        (omega arith, omega (arith, held_length j))
    go not_of_form q k = absurd (refused_not k)
    go not_sound q k = absurd (refused_not k)

pub long_texts_do_not_read : LongTextsDoNotRead
long_texts_do_not_read s h e = omega (arith, (read_most s e).0, ltb-true longest_stream (length s) h)

-- ---- what is said
-- it is read where it is not refused
was_read : (t : Bool) (v : Verdict) → cond t (Refused StreamLength) v ≡ Carried → v ≡ Carried
was_read true v e = absurd (refused_not e)
was_read false v e = e

said_most : (s : List ℕ) → length (said_by (verdict_of s) (held_by (unpark s))) ≤ longest_said
said_most s = go (verdict_of s) refl
  where
    go : (v : Verdict) → verdict_of s ≡ v → length (said_by v (held_by (unpark s))) ≤ longest_said
    go Carried e = (read_most s (was_read (is_too_long s) (unpark s).verdict e)).1
    go (Refused why) e = omega (arith, refused_most why)

pub said_whole : SaidWhole
said_whole s room r after y h = (held {most = longest_said} (said_most s) y.text).whole h
