-- How long a text can be. Assumes nothing.
use mathlib.Core.Path.{◌≡◌, refl, ap}
use Prim.Native.Nat.{ℕ, zero, suc, ◌+◌, ◌*◌, ◌/◌, ◌%◌, ◌^◌, ◌≤◌, ◌<◌}
use native.Mathlib.Nat.{pow-suc}
use native.Mathlib.Omega.{arith}
use mathlib.Core.List.{List, [], ◌∷◌}
use lib.Dec.{ltb}
use lib.ListN.{length, length-append}
use lib.Seq.{length-take-le}
use borrow.Author.Tests.{ltb-false}
use Rattle.common.proofs.Choices.{choice_by}
use Rattle.rules.specs.declared.Spot.{Spot}
use Rattle.rules.specs.Measure.{stack_holds, row_holds}
use Rattle.rules.specs.Plain.{decimal_up_to, decimal}
use Rattle.rules.specs.Report.{fields as put_fields, line}
use Rattle.rules.specs.Texts.{put_many, POS, put_position, put_pair, ROW, put_row}
use Rattle.rules.specs.Forms.{Parked, Member, Form}
use Rattle.rules.specs.Park.{Lines, give_out, print, lines_from, write, depth_of, row_bytes}
use Rattle.park_laws.specs.Facts.{Each, none, each, TenDigits, SmallSpot, WellFormed, Parkable}
use Rattle.park_laws.proofs.Laws.{Lawful}
use Rattle.park_laws.proofs.Sounds.{sounds}
use Rattle.park_laws.proofs.Round.{parked_formed}

upto_length : (f g n : ℕ) (s : List ℕ) → n < 10 ^ suc g → g ≤ f → length (decimal_up_to (suc f) n s) ≤ suc g + length s
unfolding decimal_up_to
upto_length f zero n s h p = choice_by (λ l. length l ≤ 1 + length s) (ltb n 10) {a = (48 + n) ∷ s} {b = decimal_up_to f (n / 10) ((48 + n % 10) ∷ s)} (λ e. omega arith) (λ e. absurd (omega (arith, ltb-false n 10 e)))
upto_length zero (suc g) n s h p = absurd (omega arith)
upto_length (suc f) (suc g) n s h p = choice_by (λ l. length l ≤ suc (suc g) + length s) (ltb n 10) {a = (48 + n) ∷ s} {b = decimal_up_to (suc f) (n / 10) ((48 + n % 10) ∷ s)} (λ e. omega arith)
    (λ e. let i = upto_length f g (n / 10) ((48 + n % 10) ∷ s) (omega (arith, pow-suc 10 (suc g))) (omega arith) in omega arith)

decimal_length : (n : ℕ) (s : List ℕ) → TenDigits n → length (decimal n s) ≤ 10 + length s
unfolding decimal
decimal_length n s h = upto_length 19 9 n s h (omega arith)

fields_length : {ns : List ℕ} (s : List ℕ) → Each TenDigits ns → length (put_fields ns s) ≤ 11 * length ns + 1 + length s
unfolding put_fields
fields_length s none = omega arith
fields_length s (each {a = n} {l = ns} h u) = let i = fields_length s u in omega (arith, decimal_length n (put_fields ns s) h)

line_length : (w : List ℕ) {ns : List ℕ} (s : List ℕ) → Each TenDigits ns → length (line w ns s) ≤ length w + 11 * length ns + 1 + length s
line_length w {ns} s u = omega (arith, length-append w (put_fields ns s), fields_length s u)

positions_length : {l : List Spot} (s : List ℕ) → Each SmallSpot l → length (put_many put_position l s) ≤ 26 * length l + length s
unfolding put_many put_position
positions_length s none = omega arith
positions_length s (each {a = p} {l = l} h u) =
    let i = positions_length s u in
    let k = line_length POS {ns = p.x ∷ p.y ∷ []} (put_many put_position l s) (each h.0 (each h.1 none)) in
    omega arith

pairs_length : (l s : List ℕ) → length (put_many put_pair l s) ≡ 2 * length l + length s
unfolding put_many put_pair
pairs_length [] s = omega arith
pairs_length (b ∷ l) s = let i = pairs_length l s in omega arith

print_length : (f : Form) (r : Lines) → WellFormed f r → length (print f r []) ≤ length f.word + 11 * length r.numbers + 26 * length r.spots + 2 * length r.bytes + 6
unfolding print put_row
print_length f r w =
    let A : List ℕ = put_row r.bytes [] in
    let B : List ℕ = put_many put_position r.spots A in
    let a : length A ≡ 4 + length (put_many put_pair r.bytes (10 ∷ [])) = length-append ROW (put_many put_pair r.bytes (10 ∷ [])) in
    omega (arith, line_length f.word B w.small, positions_length A w.spots_small, pairs_length r.bytes (10 ∷ []))

give_length : (l : List Member) (j : Parked) → length (give_out l j) ≡ length l
give_length [] j = refl
give_length (m ∷ l) j = ap suc (give_length l j)

-- the text of what can be parked
pub write_length : (f : Form) → Lawful f → (j : Parked) → Parkable j → length (write f j) ≤ length f.word + 11 * length f.members + 26 * stack_holds + 2 * row_holds + 6
unfolding write lines_from
write_length f law j p =
    let s = sounds j p.sound in
    let d = s.depth in let w = s.W in
    let x = length-take-le (depth_of j) j.state.core.stack (omega (arith, p.shaped.1)) in
    let y = length-take-le (row_bytes j) j.state.core.seed (omega (arith, p.shaped.0)) in
    omega (arith, print_length f (lines_from f j) (parked_formed f law j p), give_length f.members j)
