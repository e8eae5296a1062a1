-- What a row does to pen, seed row and page. Assumes nothing.
use Prim.{tt}
use mathlib.Core.Path.{◌≡◌, refl, sym, ap, ◌∙◌}
use mathlib.Core.Bool.{Bool, true, false, cond}
use mathlib.Core.List.{List, [], ◌∷◌, ◌++◌}
use Prim.Native.Nat.{ℕ, ◌-◌, ◌/◌, ◌≤◌, min}
use native.Mathlib.Omega.{arith}
use native.Mathlib.Nat.{min-eq_left}
use lib.Dec.{eqb}
use lib.ListN.{length, take, drop, replicate, length-drop, length-replicate}
use lib.Seq.{take_at}
use borrow.Author.Tests.{eqb-true}
use Rattle.common.specs.Lists.{pad}
use Rattle.rules.specs.declared.Measure.{Measure}
use Rattle.rules.specs.declared.Value.{Value}
use Rattle.rules.specs.declared.Command.TheVariants.{Row}
use Rattle.rules.specs.declared.Finding.{Finding}
use Rattle.rules.specs.declared.Finding.TheVariants.{Nothing, NotAllowed, DamagedRow}
use Rattle.rules.specs.declared.Spot.{Spot}
use Rattle.rules.specs.declared.Raster.{Raster}
use Rattle.rules.specs.declared.Core.{Core}
use Rattle.rules.specs.declared.Beside.{Beside}
use Rattle.rules.specs.Measure.{dot_unit, row_holds}
use Rattle.rules.specs.States.{with_at, with_raster, with_used, with_seed, zero_seed}
use Rattle.rules.specs.Commands.{whole, is_negative}
use Rattle.rules.specs.Effects.{started_at}
use Rattle.rules.specs.Sound.{all_zero}
use Rattle.rules.specs.Rows.{decoded}
use Rattle.rules.specs.Dots.{painted}
use Rattle.rules.specs.Acts.{draw, next, shown, ends_page, begun, seed_now, mean_row, mean_command}
use Rattle.row_decode.specs.Decoding.{Decoded}
use Rattle.do_seed.specs.Cursor.{raster_begun, row_spot, moved_on}
use Rattle.do_seed.proofs.Drawing.{drawn_parts, row_parts, begun_raster, begun_at, begun_seed}
use Rattle.theorems.proofs.Lengths.{decoded_length}
use Rattle.theorems.proofs.Soundness.{drop_zeros}
use Rattle.common.proofs.Choices.{and_true, choice}
use Rattle.do_deed.specs.Acted.{acted_of, ActedOn}
use Rattle.state_pen.specs.declared.Pen.{Pen}
use Rattle.state_pen.specs.Pens.{core_of}
use Rattle.do_deed.specs.declared.Deed.{Deed}
use Rattle.do_deed.specs.declared.Stacking.TheVariants.{Kept}
use Rattle.do_deed.specs.Deeds.{deed_of, DeedOn}
use Rattle.do_deed.proofs.Acts.{one_act}
use Rattle.do_deed.proofs.Penned.{nothing, pen_with}

-- a list of zeros
zeros : (l : List ℕ) → all_zero l ≡ true → l ≡ replicate (length l) 0
unfolding all_zero
zeros [] e = refl
zeros (b ∷ l) e = let h = and_true (eqb b 0) (all_zero l) e in rw (eqb-true b 0 h.0) (ap (λ (k : List ℕ). 0 ∷ k) (zeros l h.1))

-- the seed row that a row is decoded with is zero from W/8 on, too
seed_now_lem : (w : ℕ) (c : Core) → all_zero (drop w c.seed) ≡ true → all_zero (drop w (seed_now c)) ≡ true
unfolding started_at
seed_now_lem w c h = choice (λ (d : Core). all_zero (drop w d.seed) ≡ true) c.raster.started h (drop_zeros w 600)

-- a seed row that is zeroed or kept is as long as it was
pub kept_long : (t : Bool) (l s : List ℕ) → length l ≡ 600 → s ≡ cond t l zero_seed → length s ≡ 600
kept_long t l s h e = rw e (choice (λ (k : List ℕ). length k ≡ 600) t h (length-replicate {A = ℕ} 600 0))

module _ (g : Measure) (v : Value) (p : List ℕ) (c : Core) (m : Beside) where
  module _ (fits : g.wide ≤ 600) (long : length (seed_now c) ≡ 600) (clear : all_zero (drop g.wide c.seed) ≡ true) where
    abbrev bytes : List ℕ
    bytes = (decoded g.wide m.method (seed_now c) p).bytes

    bytes_long : length bytes ≡ g.wide
    bytes_long = decoded_length g.wide m.method (seed_now c) p (omega (arith, long))

    behind : drop g.wide (seed_now c) ≡ replicate (600 - length bytes) 0
    behind =
        let e : length (drop g.wide (seed_now c)) ≡ 600 - length bytes = length-drop g.wide (seed_now c) ∙ omega (arith, long, bytes_long) in
        zeros (drop g.wide (seed_now c)) (seed_now_lem g.wide c clear) ∙ ap (λ n. replicate n 0) e

    -- a row: decoded over the seed row of b, where raster is begun, and painted there
    drawing : (b d : Core) (after page painting : List ℕ) (t o : Bool) (f : Finding) → o ≡ is_negative whole v → o ≡ false → b ≡ begun c → d ≡ moved_on g b → Decoded m.method (min g.wide 600) p d.seed after t
        → painting ≡ painted g.wide (take g.wide after) (300 / b.raster.resolution) (b.raster.margin / dot_unit) (b.at.y / dot_unit) page → f ≡ cond t Nothing DamagedRow
        → ActedOn g (mean_command g (Row v) p c m) c page (acted_of (with_seed after d) m f false) painting
    unfolding mean_command mean_row next shown ends_page
    drawing b d after page painting t o f i e h k x y z =
        let n : min g.wide 600 ≡ g.wide = min-eq_left fits in
        let s : d.seed ≡ seed_now c = ap (λ (a : Core). a.seed) k ∙ ap (λ (a : Core). a.seed) h in
        let w : t ≡ (decoded g.wide m.method (seed_now c) p).intact = rw (n, s) at x.whole in
        let l : after ≡ bytes ++ drop g.wide (seed_now c) = rw (n, s) at x.row in
        let q : after ≡ pad row_holds bytes = l ∙ ap (λ (r : List ℕ). bytes ++ r) behind in
        let u : take g.wide after ≡ bytes = ap (take g.wide) q ∙ take_at bytes (replicate (600 - length bytes) 0) g.wide bytes_long in
        rw (← i, e, z, w, y, u, q, k, h) (rw (drawn_parts g bytes c) at (one_act g (draw bytes) (cond (decoded g.wide m.method (seed_now c) p).intact Nothing DamagedRow) m c page))

  -- the same from its parts: the raster state that it is drawn in, the seed row that it is decoded over, and the cursor behind it
  row_done : (q : Raster) (to : Spot) (seed after page painting : List ℕ) (t o : Bool) (f : Finding) → g.wide ≤ 600 → all_zero (drop g.wide c.seed) ≡ true → length c.seed ≡ 600 → o ≡ is_negative whole v → o ≡ false
      → q ≡ raster_begun c.raster → to ≡ row_spot g c.at q → seed ≡ cond c.raster.started c.seed zero_seed → Decoded m.method (min g.wide 600) p seed after t
      → painting ≡ painted g.wide (take g.wide after) (300 / q.resolution) (q.margin / dot_unit) (c.at.y / dot_unit) page → f ≡ cond t Nothing DamagedRow
      → ActedOn g (mean_command g (Row v) p c m) c page (acted_of (with_seed after (with_used true (with_raster q (with_at to c)))) m f false) painting
  row_done q to seed after page painting t o f fits clear long i e h k b x y z =
      let n : seed ≡ seed_now c = b ∙ begun_seed c in
      let l : length (seed_now c) ≡ 600 = rw n at (kept_long c.raster.started c.seed seed long b) in
      let x' : Decoded m.method (min g.wide 600) p (moved_on g (begun c)).seed after t = rw n at x in
      let r : q ≡ (begun c).raster = h ∙ sym (begun_raster c) in
      let y' : painting ≡ painted g.wide (take g.wide after) (300 / (begun c).raster.resolution) ((begun c).raster.margin / dot_unit) ((begun c).at.y / dot_unit) page = rw (begun_at c, ← r) y in
      rw (k, h) (rw (row_parts g c after) at (drawing fits l clear (begun c) (moved_on g (begun c)) after page painting t o f i e refl refl x' y' z))

module _ (g : Measure) (p : Pen) (m : Beside) where
  -- *b#W with a negative value
  pub row_barred : (v : Value) (s b page : List ℕ) (r : Deed) (t : Bool) → t ≡ is_negative whole v → t ≡ true → r ≡ deed_of p m NotAllowed false Kept → DeedOn g (λ (c : Core). mean_command g (Row v) s c m) p b page r b page
  unfolding mean_command
  row_barred v s b page r t e f h = nothing g p m (λ (c : Core). mean_command g (Row v) s c m) NotAllowed r (λ c. rw (← e, f)) h b page

  -- a row, from its parts: the raster state that it is drawn in, the seed row that it is decoded over, and the cursor behind it
  pub row_deed : (v : Value) (s : List ℕ) (q : Raster) (to : Spot) (b seed after page painting : List ℕ) (t o : Bool) (f : Finding) (r : Deed) → g.wide ≤ 600 → all_zero (drop g.wide b) ≡ true → length b ≡ 600 → o ≡ is_negative whole v → o ≡ false
      → q ≡ raster_begun p.raster → to ≡ row_spot g p.at q → seed ≡ cond p.raster.started b zero_seed → Decoded m.method (min g.wide 600) s seed after t
      → painting ≡ painted g.wide (take g.wide after) (300 / q.resolution) (q.margin / dot_unit) (p.at.y / dot_unit) page → f ≡ cond t Nothing DamagedRow
      → r ≡ deed_of (pen_with to p.layout q true p.depth) m f false Kept
      → DeedOn g (λ (c : Core). mean_command g (Row v) s c m) p b page r after painting
  row_deed v s q to b seed after page painting t o f r fits clear long i e h k x y z a w = rw w (record { acted = λ l. row_done g v s (core_of p l b) m q to seed after page painting t o f fits clear long i e h k x y z a; placed = tt })
