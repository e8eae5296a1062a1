-- Page rows one below the other, painted in place. Assumes nothing.
use mathlib.Core.Path.{◌≡◌, refl, sym, ap, ◌∙◌}
use mathlib.Core.List.{List, [], ◌++◌, append_assoc, append-nil}
use mathlib.Core.Logic.{⊎_elim}
use Prim.Native.Nat.{ℕ, zero, suc, ◌+◌, ◌-◌, ◌*◌, ◌/◌, ◌≤◌, ◌<◌, min}
use native.Mathlib.Omega.{arith}
use native.Mathlib.Nat.{mul-le-mul_right, div-mul-le_self, le_trans, lt-div-mul-add}
use lib.ListN.{length, take, drop, length-append, length-drop, drop_of_length-le, take-append-drop}
use lib.Seq.{take_all, take-nil, drop-nil, take_at, drop_at, length-take-le}
use Rattle.common.proofs.Choices.{le_or_lt}
use Rattle.common.proofs.Parts.{row_step, put_back, back_length}
use Rattle.rules.specs.Dots.{inked_line, inked_lines, painted}
use Rattle.theorems.proofs.Inks.{line_length}

-- no page, nothing painted
lines_none : (w : ℕ) (row : List ℕ) (dots from n : ℕ) → inked_lines w row dots from n [] ≡ []
unfolding inked_lines inked_line
lines_none w row dots from zero = refl
lines_none w row dots from (suc n) = rw (take-nil {A = ℕ} w, drop-nil {A = ℕ} w) (lines_none w row dots from n)

-- page rows of no bytes, nothing painted
lines_narrow : (row : List ℕ) (dots from n : ℕ) (page : List ℕ) → inked_lines 0 row dots from n page ≡ page
unfolding inked_lines inked_line
lines_narrow row dots from zero page = refl
lines_narrow row dots from (suc n) page = lines_narrow row dots from n page

-- the first i of so many page rows are painted, and they stand before byte a
pub record Covering (w : ℕ) (row : List ℕ) (dots from lines : ℕ) (before page : List ℕ) (a i : ℕ) : Type 0 where
  pub inside : a ≤ length page
  pub same : length page ≡ length before
  pub is : inked_lines w row dots from lines before ≡ take a page ++ inked_lines w row dots from (lines - i) (drop a page)

-- at first none is
pub covering_starts : (w : ℕ) (row : List ℕ) (dots from lines : ℕ) (before : List ℕ) → Covering w row dots from lines before before 0 0
covering_starts w row dots from lines before = let z : lines - 0 ≡ lines = omega arith in record { inside = omega arith; same = refl; is = rw z }

-- the next page row is what is left of the page, at most w bytes
next_row : (w c : ℕ) (rest : List ℕ) → c ≡ min w (length rest) → (take c rest ≡ take w rest) × (drop c rest ≡ drop w rest)
next_row w c rest e = ⊎_elim whole short (le_or_lt w (length rest))
  where
    whole : w ≤ length rest → (take c rest ≡ take w rest) × (drop c rest ≡ drop w rest)
    whole h = let d : c ≡ w = omega arith in (rw d, rw d)

    short : length rest < w → (take c rest ≡ take w rest) × (drop c rest ≡ drop w rest)
    short h =
        let m : length rest ≤ w = omega arith in
        let l : length rest ≤ c = omega arith in
        (rw (take_all c rest l, take_all w rest m), rw (drop_of_length-le rest l, drop_of_length-le rest m))

-- one page row is painted, and has come back
pub covering_again : (w : ℕ) (row : List ℕ) (dots from lines : ℕ) (before page part : List ℕ) (a i c : ℕ) → Covering w row dots from lines before page a i
    → i < lines → c ≡ min w (length page - a) → part ≡ inked_line row dots from 0 (take ((a + c) - a) (drop a page))
    → Covering w row dots from lines before (put_back page a ((a + c) - a) part) (a + c) (i + 1)
unfolding inked_lines
covering_again w row dots from lines before page part a i c v p e g =
    let m : (a + c) - a ≡ c = omega arith in
    let f : a + c ≤ length page = omega (arith, v.inside) in
    let q : c ≡ min w (length (drop a page)) = simp length-drop e in
    let k = next_row w c (drop a page) q in
    let b : part ≡ inked_line row dots from 0 (take w (drop a page)) = rw (m, k.0) at g in
    let l : length part ≡ c = ap length g ∙ line_length row dots from 0 _ ∙ rw m (length-take-le c (drop a page) (simp length-drop (omega arith))) in
    let o : length (take a page ++ part) ≡ a + c = simp (length-append, length-take-le a page v.inside, l) in
    let d : lines - i ≡ suc (lines - (i + 1)) = omega arith in
    rw m
    (record {
      inside = rw (back_length page part a c f l) f;
      same = back_length page part a c f l ∙ v.same;
      is =
          v.is
          ∙ ap (λ k. take a page ++ inked_lines w row dots from k (drop a page)) d
          ∙ rw (← append_assoc (take a page) part (drop c (drop a page)), take_at (take a page ++ part) (drop c (drop a page)) (a + c) o, drop_at (take a page ++ part) (drop c (drop a page)) (a + c) o, append_assoc, k.1, b);
    })

-- all are painted
pub covering_ends : (w : ℕ) (row : List ℕ) (dots from lines : ℕ) (before page : List ℕ) (a i : ℕ) → Covering w row dots from lines before page a i → lines ≤ i
    → page ≡ inked_lines w row dots from lines before
unfolding inked_lines
covering_ends w row dots from lines before page a i v h = let z : lines - i ≡ 0 = omega arith in sym (v.is ∙ rw (z, take-append-drop))

-- the page ends before they are
pub covering_stops : (w : ℕ) (row : List ℕ) (dots from lines : ℕ) (before page : List ℕ) (a i : ℕ) → Covering w row dots from lines before page a i → length page ≤ a
    → page ≡ inked_lines w row dots from lines before
covering_stops w row dots from lines before page a i v h = sym (v.is ∙ rw (drop_of_length-le page h, lines_none, take_all a page h) (append-nil page))

-- page rows of no bytes: the page stays
pub painted_narrow : (w : ℕ) (row : List ℕ) (dots from line : ℕ) (page : List ℕ) → w ≡ 0 → page ≡ painted w row dots from line page
unfolding painted
painted_narrow w row dots from line page e = rw (e, lines_narrow) (sym (take-append-drop (line * 0) page))

-- a row below the page: the page stays
pub painted_below : (w : ℕ) (row : List ℕ) (dots from line : ℕ) (page : List ℕ) → (w ≡ 0 → ⊥) → length page / w < line → page ≡ painted w row dots from line page
unfolding painted
painted_below w row dots from line page z h =
    let p : 0 < w = omega arith in
    let l : length page ≤ line * w = omega (arith, lt-div-mul-add {a = length page} {b = w} p, row_step w h) in
    sym (rw (drop_of_length-le page l, lines_none, take_all (line * w) page l) (append-nil page))

-- a row's first page row begins in the page, or at its end
pub line_inside : (w line : ℕ) (page : List ℕ) → line ≤ length page / w → line * w ≤ length page
line_inside w line page h = le_trans (mul-le-mul_right w h) (div-mul-le_self (length page) w)

-- no squares, nothing painted
pub lines_blank : (w : ℕ) (row : List ℕ) (dots from : ℕ) (page : List ℕ) → dots ≡ 0 → page ≡ inked_lines w row dots from dots page
unfolding inked_lines
lines_blank w row dots from page e = rw e

-- the page from the row's first page row on is painted, and has come back
pub painted_rest : (w : ℕ) (row : List ℕ) (dots from line : ℕ) (page part : List ℕ) → line ≤ length page / w
    → part ≡ inked_lines w row dots from dots (take (length page - line * w) (drop (line * w) page))
    → put_back page (line * w) (length page - line * w) part ≡ painted w row dots from line page
unfolding painted
painted_rest w row dots from line page part h e =
    let l : length (drop (line * w) page) ≤ length page - line * w = simp length-drop (omega arith) in
    rw (drop_of_length-le (drop (line * w) page) l, e, take_all (length page - line * w) (drop (line * w) page) l, append-nil)
