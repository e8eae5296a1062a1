-- What a painted page has at each of its dots: "each set bit becomes a square", "clipped to the page", "other dots stay". Assumes nothing.
use mathlib.Core.Path.{◌≡◌, sym, ap, ◌∙◌}
use mathlib.Core.Bool.{true, false, cond, ◌&&◌}
use mathlib.Core.List.{List, ◌++◌}
use mathlib.Core.Logic.{inl, inr, ⊎_elim}
use Prim.Native.Nat.{ℕ, zero, suc, ◌+◌, ◌-◌, ◌*◌, ◌/◌, ◌%◌, ◌≤◌, ◌<◌, max}
use native.Mathlib.Omega.{arith}
use native.Mathlib.Nat.{suc-mul, add-mul, le_of_suc-le-suc, not-suc-le-zero, div-mul-le_self, lt-div-mul-add, div-eq_of_lt-le}
use lib.Dec.{leb, ltb}
use lib.ListN.{length, get_or, take, drop, length-take, length-drop, take-append-drop}
use lib.Seq.{take_at, drop_at, take-append-le, drop-append-le, drop-drop, length-take-le, get_or-take, get_or-drop}
use borrow.Author.Tests.{le-leb, lt-ltb, le-ltb, leb-true, ltb-true, ltb-false}
use Rattle.common.specs.Bits.{bit, dot, byte_of}
use Rattle.common.proofs.Bits.{bit_lt, dot_lt, bit-byte_of}
use Rattle.common.proofs.Choices.{le_or_lt, choice, choice_by, and_true}
use Rattle.common.proofs.Parts.{row_step}
use Rattle.rules.specs.Dots.{ink, inked_byte, inked_line, inked_lines, painted}
use Rattle.theorems.specs.Squares.{dot_at, Covered, DotRule}
use Rattle.theorems.proofs.Inks.{ink_at, no_ink, ink_lt, line_length, line_at}

-- row y of a page whose rows are w bytes
unfoldable page_row : ℕ → List ℕ → ℕ → List ℕ
page_row w page y = take w (drop (y * w) page)

-- its dots are those of the page
dot_row : (w : ℕ) (page : List ℕ) (x y : ℕ) → x < 8 * w → dot_at w page x y ≡ dot (page_row w page y) x
unfolding dot page_row
dot_row w page x y h =
    let a : (8 * (y * w) + x) / 8 ≡ y * w + x / 8 = omega arith in
    let b : (8 * (y * w) + x) % 8 ≡ x % 8 = omega arith in
    let k : x / 8 < w = omega arith in
    rw (a, b, get_or-take w (drop (y * w) page) (x / 8) 0 k, get_or-drop (y * w) page (x / 8) 0)

-- dot x of a painted page row: it was set, or has ink
line_dot : (row : List ℕ) (dots from : ℕ) (p : List ℕ) (x : ℕ) → x < 8 * length p → dot (inked_line row dots from 0 p) x ≡ max (dot p x) (ink row dots from x)
unfolding dot inked_byte
line_dot row dots from p x h =
    let m : ℕ = x / 8 in
    let z : 0 + m ≡ m = omega arith in
    let e : 8 * (x / 8) + x % 8 ≡ x = omega arith in
    let f : ℕ → ℕ = λ i. max (bit (get_or p m 0) i) (ink row dots from (8 * m + i)) in
    let s : (i : ℕ) → f i < 2 = λ i. omega (arith, bit_lt (get_or p m 0) i, ink_lt row dots from (8 * m + i)) in
    let a : get_or (inked_line row dots from 0 p) m 0 ≡ byte_of f = rw z at (line_at row dots from 0 p m (omega arith)) in
    rw a (bit-byte_of f s (x % 8) (omega arith) ∙ ap (λ k. max (bit (get_or p m 0) (x % 8)) (ink row dots from k)) e)

-- numbers equally far apart are in the same order
ltb_apart : (a b c d : ℕ) → a + d ≡ c + b → ltb a b ≡ ltb c d
ltb_apart a b c d e =
    ⊎_elim (λ h. rw (le-ltb a b (omega arith), le-ltb c d h)) (λ h. rw (lt-ltb a b (omega arith), lt-ltb c d h)) (le_or_lt d c)

-- row y of n painted page rows, and of those behind them
lines_row : (w : ℕ) (row : List ℕ) (dots from n h : ℕ) (page : List ℕ) (y : ℕ) → length page ≡ h * w → y < h
    → page_row w (inked_lines w row dots from n page) y ≡ cond (ltb y n) (inked_line row dots from 0 (page_row w page y)) (page_row w page y)
unfolding page_row inked_lines
lines_row w row dots from zero h page y l k = rw (le-ltb y 0 (omega arith))
lines_row w row dots from (suc n) zero page y l k = absurd (not-suc-le-zero k)
lines_row w row dots from (suc n) (suc h) page zero l k =
    let z : 0 * w ≡ 0 = omega arith in
    let g : w ≤ length page = omega (arith, suc-mul h w) in
    let q : length (inked_line row dots from 0 (take w page)) ≡ w = line_length row dots from 0 (take w page) ∙ length-take-le w page g in
    rw (lt-ltb 0 (suc n) (omega arith), z) (take_at (inked_line row dots from 0 (take w page)) _ w q)
lines_row w row dots from (suc n) (suc h) page (suc y) l k =
    let g : w ≤ length page = omega (arith, suc-mul h w) in
    let q : length (inked_line row dots from 0 (take w page)) ≡ w = line_length row dots from 0 (take w page) ∙ length-take-le w page g in
    let d : length (drop w page) ≡ h * w = length-drop w page ∙ omega (arith, suc-mul h w) in
    let e : suc y * w ≡ w + y * w = omega (arith, suc-mul y w) in
    let t : ltb (suc y) (suc n) ≡ ltb y n = ltb_apart (suc y) (suc n) y n (omega arith) in
    rw (t, e, ← drop-drop (y * w) w page, ← drop-drop (y * w) w (inked_line row dots from 0 (take w page) ++ inked_lines w row dots from n (drop w page)), drop_at (inked_line row dots from 0 (take w page)) (inked_lines w row dots from n (drop w page)) w q)
    (lines_row w row dots from n h (drop w page) y d (le_of_suc-le-suc k))

-- a row that lies in the first a bytes
front_row : (l q : List ℕ) (a b m : ℕ) → b + m ≤ length (take a l) → take m (drop b (take a l ++ q)) ≡ take m (drop b (take a l))
front_row l q a b m h =
    let e : b ≤ length (take a l) = omega arith in
    let f : m ≤ length (drop b (take a l)) = simp length-drop (omega arith) in
    rw (drop-append-le b (take a l) q e, take-append-le m (drop b (take a l)) q f)

module _ (w high : ℕ) (row : List ℕ) (dots from line : ℕ) (page : List ℕ) (size : length page ≡ high * w) where
  -- a row above the square stays
  row_above : (y : ℕ) → y < high → y < line → page_row w (painted w row dots from line page) y ≡ page_row w page y
  unfolding page_row painted
  row_above y h k =
      let g : y * w + w ≤ length (take (line * w) page) = omega (arith, length-take (line * w) page, row_step w h, row_step w k) in
      front_row page (inked_lines w row dots from dots (drop (line * w) page)) (line * w) (y * w) w g
      ∙ sym (front_row page (drop (line * w) page) (line * w) (y * w) w g)
      ∙ ap (λ l. take w (drop (y * w) l)) (take-append-drop (line * w) page)

  -- a row from the square's first on is painted as far as the square goes
  row_from : (y : ℕ) → y < high → line ≤ y
      → page_row w (painted w row dots from line page) y ≡ cond (ltb y (line + dots)) (inked_line row dots from 0 (page_row w page y)) (page_row w page y)
  unfolding page_row painted
  row_from y h k =
      let z : ℕ = y - line in
      let e : y ≡ line + z = omega arith in
      let f : y * w ≡ line * w + z * w = ap (λ n. n * w) e ∙ add-mul line z w in
      let g : line + (high - line) ≡ high = omega arith in
      let c : high * w ≡ line * w + (high - line) * w = ap (λ n. n * w) (sym g) ∙ add-mul line (high - line) w in
      let t : length (take (line * w) page) ≡ line * w = length-take-le (line * w) page (omega arith) in
      let d : length (drop (line * w) page) ≡ (high - line) * w = length-drop (line * w) page ∙ omega arith in
      let s : ltb y (line + dots) ≡ ltb z dots = ltb_apart y (line + dots) z dots (omega arith) in
      rw (s, f, ← drop-drop (z * w) (line * w) page, ← drop-drop (z * w) (line * w) (take (line * w) page ++ inked_lines w row dots from dots (drop (line * w) page)), drop_at (take (line * w) page) (inked_lines w row dots from dots (drop (line * w) page)) (line * w) t)
      (lines_row w row dots from dots (high - line) (drop (line * w) page) z d (omega arith))

  -- a row of the page has its w bytes
  row_length : (y : ℕ) → y < high → length (page_row w page y) ≡ w
  unfolding page_row
  row_length y h = length-take-le w (drop (y * w) page) (simp length-drop (omega (arith, row_step w h)))

  -- a row below the square stays
  row_below : (y : ℕ) → y < high → line + dots ≤ y → page_row w (painted w row dots from line page) y ≡ page_row w page y
  row_below y h k = row_from y h (omega arith) ∙ rw (le-ltb y (line + dots) k)

  -- a row that is no row of the square stays, byte for byte
  row_stays : (y : ℕ) → y < high → (leb line y && ltb y (line + dots)) ≡ false → page_row w (painted w row dots from line page) y ≡ page_row w page y
  row_stays y h t = ⊎_elim inside (row_above y h) (le_or_lt line y)
    where
      inside : line ≤ y → page_row w (painted w row dots from line page) y ≡ page_row w page y
      inside k = row_below y h (ltb-false y (line + dots) (rw (le-leb line y k) at t))

  -- a row of the square is painted
  row_painted : (y : ℕ) → y < high → (leb line y && ltb y (line + dots)) ≡ true
      → page_row w (painted w row dots from line page) y ≡ inked_line row dots from 0 (page_row w page y)
  row_painted y h t =
      let a = and_true (leb line y) (ltb y (line + dots)) t in
      row_from y h (leb-true line y a.0) ∙ rw a.1

  -- each dot of the page: it was set, or the square covers it and has ink there
  dot_by : (x y : ℕ) → y < high → x < 8 * w
      → dot (page_row w (painted w row dots from line page) y) x ≡ max (dot (page_row w page y) x) (cond (leb line y && ltb y (line + dots)) (ink row dots from x) 0)
  dot_by x y h l =
      choice_by (λ n. dot (page_row w (painted w row dots from line page) y) x ≡ max (dot (page_row w page y) x) n) (leb line y && ltb y (line + dots))
      (λ t. rw (row_painted y h t) (line_dot row dots from (page_row w page y) x (omega (arith, row_length y h))))
      (λ t. rw (row_stays y h t) (omega arith))

  -- the same of the page's dots
  dot_both : (x y : ℕ) → x < 8 * w → y < high
      → dot_at w (painted w row dots from line page) x y ≡ max (dot_at w page x y) (cond (leb line y && ltb y (line + dots)) (ink row dots from x) 0)
  dot_both x y l h = dot_row w (painted w row dots from line page) x y l ∙ dot_by x y h l ∙ rw (dot_row w page x y l)

  -- there is ink at a dot that is covered
  ink_covered : (x y : ℕ) → Covered row dots from line x y → cond (leb line y && ltb y (line + dots)) (ink row dots from x) 0 ≡ 1
  ink_covered x y c =
      let i = c.number in
      let k = c.inside in
      let a : i * dots ≤ x - from = omega (arith, k.from_left) in
      let b : x - from < (i + 1) * dots = omega (arith, k.from_left, k.to_right, add-mul i 1 dots) in
      rw (le-leb line y k.from_top, lt-ltb y (line + dots) k.to_bottom)
      (ink_at row dots from x (x - from) (omega (arith, k.from_left)) ∙ rw (div-eq_of_lt-le dots a b) c.set)

  -- and where there is ink a dot is covered
  covered_ink : (x y : ℕ) → cond (leb line y && ltb y (line + dots)) (ink row dots from x) 0 ≡ 1 → Covered row dots from line x y
  covered_ink x y =
      choice_by (λ n. n ≡ 1 → Covered row dots from line x y) (leb line y && ltb y (line + dots)) {a = ink row dots from x} {b = 0} found (λ t e. absurd (omega arith))
    where
      found : (leb line y && ltb y (line + dots)) ≡ true → ink row dots from x ≡ 1 → Covered row dots from line x y
      found t e = ⊎_elim right (λ (k : x < from). absurd (omega (arith, e, no_ink row dots from x k))) (le_or_lt from x)
        where
          right : from ≤ x → Covered row dots from line x y
          right k =
              let a = and_true (leb line y) (ltb y (line + dots)) t in
              let top = leb-true line y a.0 in
              let foot = ltb-true y (line + dots) a.1 in
              let low = div-mul-le_self (x - from) dots in
              let over = lt-div-mul-add {a = x - from} {b = dots} (omega arith) in
              record {
                number = (x - from) / dots;
                set = sym (ink_at row dots from x (x - from) (omega arith)) ∙ e;
                inside = record { from_left = omega arith; to_right = omega arith; from_top = top; to_bottom = foot };
              }

  -- dot (x, y) is set exactly if it was set or the square of a set bit covers it
  pub dot_rule : (x y : ℕ) → x < 8 * w → y < high → DotRule w row dots from line page (painted w row dots from line page) x y
  dot_rule x y l h = record {
    stays = λ e. dot_both x y l h ∙ omega (arith, small);
    becomes = λ c. dot_both x y l h ∙ omega (arith, ink_covered x y c, dot_lt page (8 * (y * w) + x));
    only = λ e.
        let q = sym (dot_both x y l h) ∙ e in
        ⊎_elim (λ (k : 1 ≤ dot_at w page x y). inl (omega (arith, dot_lt page (8 * (y * w) + x)))) (λ (k : dot_at w page x y < 1). inr (covered_ink x y (omega arith))) (le_or_lt 1 (dot_at w page x y));
  }
    where
      small : cond (leb line y && ltb y (line + dots)) (ink row dots from x) 0 < 2
      small = choice (λ n. n < 2) (leb line y && ltb y (line + dots)) (ink_lt row dots from x) (omega arith)
