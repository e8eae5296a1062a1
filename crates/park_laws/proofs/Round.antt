-- The texts of a form are the prints of its lines; what can be parked, and texts of the form that are sound, are the same thing. Assumes nothing.
use mathlib.Core.Path.{◌≡◌, ap, sym, ◌∙◌}
use Prim.Native.Nat.{ℕ, ◌-◌, ◌≤◌}
use native.Mathlib.Omega.{arith}
use mathlib.Core.List.{List, ◌++◌}
use mathlib.Core.Bool.{true}
use lib.ListN.{length, take, drop, replicate, length-append, length-replicate, length-drop, take-append-drop}
use lib.Seq.{take-append_seam, length-take-le}
use Rattle.common.specs.Lists.{pad}
use Rattle.common.proofs.Lists.{rejoin}
use Rattle.rules.specs.Measure.{stack_holds, row_holds, origin}
use Rattle.rules.specs.Report.{line}
use Rattle.rules.specs.Texts.{found, then, many, put_many, position, put_position, row, put_row}
use Rattle.rules.specs.Forms.{Parked, measured, Form, flags_of}
use Rattle.rules.specs.Park.{give_out, of_numbers, row_bytes, depth_of, Lines, lines_of, print, lines_from, stack_with, of_lines, shape, lines, parked_sound}
use Rattle.park_laws.specs.Facts.{WellFormed, Parkable}
use Rattle.park_laws.proofs.Digits.{by_then, same}
use Rattle.park_laws.proofs.Written.{line_put, line_inv, many_put, many_inv, position_put, position_inv, row_put, row_inv}
use Rattle.park_laws.proofs.Laws.{Lawful}
use Rattle.park_laws.proofs.Sounds.{sounds, in_page_lem, free_is, zero_is, each_take, each_append, each_zero}

-- what is printed is read back
pub lines_print : (f : Form) (r : Lines) (s : List ℕ) → WellFormed f r → lines f (print f r s) ≡ found r s
unfolding lines print then
lines_print f r s w =
    let A : List ℕ = put_row r.bytes s in
    let B : List ℕ = put_many put_position r.spots A in
    let p : many position (depth_of (shape f r.numbers)) B ≡ found r.spots A = ap (λ n. many position n B) (sym w.depth) ∙ many_put position put_position position_put A w.spots_small in
    let q : row (row_bytes (shape f r.numbers)) A ≡ found r.bytes s = ap (λ n. row n A) (sym w.wide) ∙ row_put s w.bytes_small in
    rw (line_put f.word B w.fits w.small, p, q)

-- what is read is printed
pub lines_inv : (f : Form) (s : List ℕ) {r : Lines} {t : List ℕ} → lines f s ≡ found r t → (WellFormed f r) × (print f r t ≡ s)
unfolding lines print
lines_inv f s {r} {t} e =
    by_then _ _ e (λ ns s1 e1 k1. by_then _ _ k1 (λ l s2 e2 k2. by_then _ _ k2 (λ b s3 e3 k3.
    let n = line_inv f.word (flags_of f.members) s e1 in
    let p = many_inv position put_position position_inv (depth_of (shape f ns)) s1 e2 in
    let q = row_inv (row_bytes (shape f ns)) s2 e3 in
    same (λ r t. (WellFormed f r) × (print f r t ≡ s)) k3 (
      record { fits = n.0; small = n.1; spots_small = p.1; depth = p.0; wide = q.0; bytes_small = q.1 },
      ap (λ x. line f.word ns (put_many put_position l x)) q.2 ∙ ap (line f.word ns) p.2 ∙ n.2,
    ))))

module _ (f : Form) (law : Lawful f) where
  -- lines, made a state and written again
  pub lines_back : (r : Lines) → WellFormed f r → lines_from f (of_lines f r) ≡ r
  unfolding lines_from
  lines_back r w =
      let t = law.taken r.numbers (stack_with r.spots) (pad row_holds r.bytes) w.fits in
      let j : Parked = of_lines f r in
      let e2 : take (depth_of j) j.state.core.stack ≡ r.spots = ap (λ n. take n j.state.core.stack) (t.depth ∙ sym w.depth) ∙ ap (take (length r.spots)) t.stacked ∙ take-append_seam r.spots _ in
      let e3 : take (row_bytes j) j.state.core.seed ≡ r.bytes = ap (λ n. take n j.state.core.seed) (t.wide ∙ sym w.wide) ∙ ap (take (length r.bytes)) t.seeded ∙ take-append_seam r.bytes _ in
      (λ i. lines_of (t.out i) (e2 i) (e3 i))

  -- and that can be parked, if it is sound
  pub lines_parkable : (r : Lines) → WellFormed f r → parked_sound (of_lines f r) ≡ true → Parkable (of_lines f r)
  lines_parkable r w e =
      let t = law.taken r.numbers (stack_with r.spots) (pad row_holds r.bytes) w.fits in
      let s = sounds (of_lines f r) e in
      let d : length r.spots ≤ stack_holds = omega (arith, w.depth, t.depth, s.depth) in
      let b : length r.bytes ≤ 600 = omega (arith, w.wide, t.wide, s.W) in
      record {
        sound = e;
        closed = t.closed;
        shaped = (ap length t.seeded ∙ simp (length-append, length-replicate) (omega arith), ap length t.stacked ∙ simp (length-append, length-replicate) (omega arith));
        seed_bytes = rw t.seeded (each_append w.bytes_small (each_zero (600 - length r.bytes)));
      }

  -- what can be parked has a text of the form
  pub parked_formed : (j : Parked) → Parkable j → WellFormed f (lines_from f j)
  unfolding lines_from
  parked_formed j p =
      let s = sounds j p.sound in
      let t = law.taken (give_out f.members j) j.state.core.stack j.state.core.seed (law.fits j) in
      let b = law.back j p.closed in
      let d = s.depth in let w = s.W in let h = s.H in
      record {
        fits = law.fits j;
        small = law.small j s.small;
        spots_small = in_page_lem (measured j) _ (omega arith) (omega arith) s.inside;
        depth = length-take-le (depth_of j) j.state.core.stack (omega (arith, p.shaped.1)) ∙ sym (ap depth_of b) ∙ t.depth;
        wide = length-take-le (row_bytes j) j.state.core.seed (omega (arith, p.shaped.0)) ∙ sym (ap row_bytes b) ∙ t.wide;
        bytes_small = each_take (row_bytes j) p.seed_bytes;
      }

  -- from which it is read back
  pub parked_back : (j : Parked) → Parkable j → of_lines f (lines_from f j) ≡ j
  unfolding lines_from
  parked_back j p =
      let s = sounds j p.sound in
      let c = j.state.core in
      let d = s.depth in let w = s.W in
      let ld : length (take (depth_of j) c.stack) ≡ depth_of j = length-take-le (depth_of j) c.stack (omega (arith, p.shaped.1)) in
      let r1 : length (drop (depth_of j) c.stack) ≡ stack_holds - length (take (depth_of j) c.stack) = simp length-drop (omega (arith, p.shaped.1)) in
      let e1 : stack_with (take (depth_of j) c.stack) ≡ c.stack =
      ap (λ n. take (depth_of j) c.stack ++ replicate n origin) (sym r1) ∙ ap (λ l. take (depth_of j) c.stack ++ l) (sym (free_is _ s.free)) ∙ take-append-drop (depth_of j) c.stack in
      let r2 : length (drop (row_bytes j) c.seed) ≡ 600 - row_bytes j = simp length-drop (omega (arith, p.shaped.0)) in
      let e2 : pad row_holds (take (row_bytes j) c.seed) ≡ c.seed =
      sym (rejoin 600 (row_bytes j) c.seed (omega arith) p.shaped.0 (zero_is _ s.zeros ∙ ap (λ n. replicate n 0) r2)) in
      ap (λ l. of_numbers f (give_out f.members j) l (pad row_holds (take (row_bytes j) c.seed))) e1
      ∙ ap (λ l. of_numbers f (give_out f.members j) c.stack l) e2
      ∙ law.back j p.closed
