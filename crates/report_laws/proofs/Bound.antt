-- How long a report can be. Assumes nothing.
use mathlib.Core.Path.{◌≡◌, refl, ap, sym, ◌∙◌}
use Prim.Native.Nat.{ℕ, zero, suc, ◌+◌, ◌*◌, ◌/◌, ◌%◌, ◌^◌, ◌≤◌, ◌<◌}
use native.Mathlib.Nat.{pow-suc}
use native.Mathlib.Omega.{arith}
use mathlib.Core.List.{List, [], ◌∷◌}
use mathlib.Core.Bool.{Bool, true, false}
use lib.ListN.{length, length-append}
use lib.Dec.{ltb}
use borrow.Author.Tests.{ltb-false}
use Rattle.common.specs.Bits.{ones_all}
use Rattle.common.proofs.Choices.{choice, choice_by}
use Rattle.rules.specs.declared.Measure.{Measure}
use Rattle.rules.specs.declared.Finding.{Finding}
use Rattle.rules.specs.declared.Finding.TheVariants.{Nothing, EndsInside, CannotStand, NotCarried, NotAllowed, StackLimit, NotNow, DamagedRow}
use Rattle.rules.specs.declared.Refusal.{Refusal}
use Rattle.rules.specs.declared.Refusal.TheVariants.{StreamLength}
use Rattle.rules.specs.declared.State.{State}
use Rattle.rules.specs.Measure.{blank}
use Rattle.rules.specs.States.{afresh}
use Rattle.rules.specs.Findings.{finding_number, refusal_number, is_clean}
use Rattle.rules.specs.Plain.{decimal_up_to, decimal}
use Rattle.rules.specs.Acts.{World, world, step, over, show_all}
use Rattle.rules.specs.Report.{fields, line, SIZE, refused_line, report_width, report_height, report_limit, report_page, report, PAGE, END, fault, page_lines, last_lines, counted, fault_alone, stream_lines}
use Rattle.number_write.proofs.Laws.{decimal_append, decimal_short}
use Rattle.theorems.proofs.Reading.{left, left_zero}
use Rattle.theorems.proofs.Streams.{step_left}
use Rattle.theorems.proofs.Suffixes.{step_took}
use Rattle.report_laws.specs.Left.{lines_left}
use Rattle.report_laws.specs.Bound.{longest_report, ReportsFit}
use Rattle.report_laws.proofs.Items.{left_whole, left_over, left_step, turned}
use Rattle.report_laws.proofs.Ends.{step_apart, step_two}

-- ---- numbers
-- a number below 10 ^ k has at most k digits
upto_few : (f k n : ℕ) (s : List ℕ) → n < 10 ^ suc k → length (decimal_up_to f n s) ≤ suc k + length s
unfolding decimal_up_to
upto_few zero k n s h = omega arith
upto_few (suc f) zero n s h =
    choice_by (λ (l : List ℕ). length l ≤ 1 + length s) (ltb n 10) (λ e. omega arith) (λ e. absurd (omega (arith, ltb-false n 10 e)))
upto_few (suc f) (suc k) n s h =
    choice (λ (l : List ℕ). length l ≤ suc (suc k) + length s) (ltb n 10) (omega arith)
    (let i = upto_few f k (n / 10) ((48 + n % 10) ∷ s) (omega (arith, pow-suc 10 (suc k))) in omega arith)

few_digits : (k n : ℕ) → n < 10 ^ suc k → length (decimal n []) ≤ suc k
unfolding decimal
few_digits k n h = omega (arith, upto_few 20 k n [] h)

-- a number in front of s
pub number_length : (n : ℕ) (s : List ℕ) → length (decimal n s) ≡ length (decimal n []) + length s
number_length n s = ap length (decimal_append n [] s) ∙ length-append (decimal n []) s

-- ---- lines
-- two numbers, with LF behind them
pub two_length : (a b : ℕ) (s : List ℕ) → length (fields (a ∷ b ∷ []) s) ≡ length (decimal a []) + length (decimal b []) + 3 + length s
unfolding fields
two_length a b s =
    let p = number_length a (9 ∷ decimal b (10 ∷ s)) in
    let q = number_length b (10 ∷ s) in
    omega arith

-- a finding's number is a digit
one_digit_lem : (f : Finding) → finding_number f < 10
one_digit_lem Nothing = omega arith
one_digit_lem EndsInside = omega arith
one_digit_lem CannotStand = omega arith
one_digit_lem NotCarried = omega arith
one_digit_lem NotAllowed = omega arith
one_digit_lem StackLimit = omega arith
one_digit_lem NotNow = omega arith
one_digit_lem DamagedRow = omega arith

-- a place within the limit has five digits at most
fault_length : (at : ℕ) (f : Finding) (s : List ℕ) → at ≤ 65536 → length (fault at f s) ≤ 14 + length s
fault_length at f s h =
    let p = two_length at (finding_number f) s in
    let q = few_digits 4 at (omega arith) in
    let r = few_digits 0 (finding_number f) (omega (arith, one_digit_lem f)) in
    choice (λ (l : List ℕ). length l ≤ 14 + length s) (is_clean f) (omega arith) (omega arith)

-- a page's number has six digits at most
page_length : (number dots : ℕ) (s : List ℕ) → number ≤ 131073 → length (line PAGE (number ∷ dots ∷ []) s) ≤ 33 + length s
page_length number dots s h =
    let p = two_length number dots s in
    let q = few_digits 5 number (omega arith) in
    let r = decimal_short dots in
    omega arith

-- lines within a bound
fault_within : (at : ℕ) (f : Finding) (s : List ℕ) (top : ℕ) → at ≤ 65536 → length s + 14 ≤ top → length (fault at f s) ≤ top
fault_within at f s top h k = omega (arith, fault_length at f s h)

page_within : (number dots : ℕ) (s : List ℕ) (top : ℕ) → number ≤ 131073 → length s + 33 ≤ top → length (line PAGE (number ∷ dots ∷ []) s) ≤ top
page_within number dots s top h k = omega (arith, page_length number dots s h)

-- a word and four numbers
pub four_length : (word : List ℕ) (x y d n : ℕ) (s : List ℕ) → length (line word (x ∷ y ∷ d ∷ n ∷ []) s) ≤ length word + 85 + length s
unfolding fields
four_length word x y d n s =
    let a = number_length x (9 ∷ decimal y (9 ∷ decimal d (9 ∷ decimal n (10 ∷ s)))) in
    let b = number_length y (9 ∷ decimal d (9 ∷ decimal n (10 ∷ s))) in
    let c = number_length d (9 ∷ decimal n (10 ∷ s)) in
    let e = number_length n (10 ∷ s) in
    let i = decimal_short x in
    let j = decimal_short y in
    let k = decimal_short d in
    let l = decimal_short n in
    simp length-append (omega arith)

-- END and its four numbers
pub end_length : (x y d n : ℕ) → length (line END (x ∷ y ∷ d ∷ n ∷ []) []) ≤ 88
end_length x y d n = omega (arith, four_length END x y d n [])

-- the last page and END
last_length : (number : ℕ) (w : World) (n : ℕ) → number ≤ 131073 → length (last_lines number w n) ≤ 121
last_length number w n h =
    let end : List ℕ = line END (w.core.at.x ∷ w.core.at.y ∷ w.core.depth ∷ n ∷ []) [] in
    let e : length end ≤ 88 = end_length w.core.at.x w.core.at.y w.core.depth n in
    choice (λ (r : List ℕ). length r ≤ 121) w.core.used (omega (arith, page_length number (ones_all w.page) end h)) (omega arith)

-- ---- items
module _ (g : Measure) where
  -- at the stream's end
  over_length : (t : State) (s : List ℕ) (at number : ℕ) (p : List ℕ) (n : ℕ) → over t s ≡ true → number ≤ 131073
      → length (lines_left fault_alone g t s at number p n) ≤ 17 * left t.sequence s + 121
  over_length t s at number p n e h = rw (left_over fault_alone g t s at number p n e) (omega (arith, last_length number (world t.core p []) n h))

  -- seventeen bytes for each half byte of the stream are enough: an item takes one, and one that ends a page takes two
  pub left_length : (k : ℕ) (t : State) (s : List ℕ) (at number : ℕ) (p : List ℕ) (n : ℕ) → left t.sequence s ≤ k → at + length s ≤ 65536
      → number + left t.sequence s ≤ 131073 → length (lines_left fault_alone g t s at number p n) ≤ 17 * left t.sequence s + 121
  left_length zero t s at number p n k low few = over_length t s at number p n (left_zero t.sequence s k) (omega arith)
  left_length (suc k) t s at number p n h low few = go (over t s) refl (left_length k)
    where
      Goal : Type 0
      Goal = length (lines_left fault_alone g t s at number p n) ≤ 17 * left t.sequence s + 121

      item : over t s ≡ false → (b : Bool) → is_clean (step g t s).done.finding ≡ b → (ds : List (List ℕ)) → (show_all g (step g t s).done.acts (world t.core p [])).handed ≡ ds
          → ((number' : ℕ) (q : List ℕ) (m : ℕ) → number' ≤ number + 1 → length (lines_left fault_alone g (step g t s).state (step g t s).rest (at + (step g t s).done.took) number' q m) ≤ 17 * left (step g t s).state.sequence (step g t s).rest + 121) → Goal
      item e b f [] d i =
          let l = step_left g t s e in
          let h = i (number + 0) (show_all g (step g t s).done.acts (world t.core p [])).page (n + counted (step g t s).done.finding) (omega arith) in
          rw (left_step g t s e fault_alone at number p n _ [] (turned g t s e p [] d)) (unfold page_lines in fault_within at (step g t s).done.finding _ _ (omega arith) (omega arith))
      item e true f (q ∷ ds) d i =
          let l = step_two g t s p q ds e d in
          let h = i (number + 1) (blank g) (n + 0) (omega arith) in
          rw (left_step g t s e fault_alone at number p n _ (q ∷ []) (turned g t s e p (q ∷ ds) d)) (unfold page_lines in rw f (page_within number (ones_all q) _ _ (omega arith) (omega arith)))
      item e false f (q ∷ ds) d i = absurd (let z : 0 ≡ suc (length ds) = ap length (sym (step_apart g t s p f) ∙ d) in omega arith)

      go : (b : Bool) → over t s ≡ b → ((t : State) (s : List ℕ) (at number : ℕ) (p : List ℕ) (n : ℕ) → left t.sequence s ≤ k → at + length s ≤ 65536
          → number + left t.sequence s ≤ 131073 → length (lines_left fault_alone g t s at number p n) ≤ 17 * left t.sequence s + 121) → Goal
      go true e i = over_length t s at number p n e (omega arith)
      go false e i =
          let l = step_left g t s e in
          let took = step_took g t s in
          item e (is_clean (step g t s).done.finding) refl (show_all g (step g t s).done.acts (world t.core p [])).handed refl
          (λ number' q m low'. i (step g t s).state (step g t s).rest (at + (step g t s).done.took) number' q m (omega arith) (omega arith) (omega arith))

-- ---- a whole report
-- the lines of a stream within the limit
stream_length : (g : Measure) (s : List ℕ) → length s ≤ 65536 → length (stream_lines fault_alone g s) ≤ 17 * (2 * 65536) + 121
stream_length g s h =
    let l : left (afresh g).sequence s ≡ 2 * length s = unfold left afresh in refl in
    rw (← left_whole fault_alone g s) (omega (arith, left_length g (2 * length s) (afresh g) s 0 1 (blank g) 0 (omega arith) (omega arith) (omega arith)))

-- SIZE in front of s
size_length : (s : List ℕ) → length (line SIZE (report_width ∷ report_height ∷ []) s) ≤ 13 + length s
size_length s = omega (arith, two_length 640 800 s, few_digits 2 640 (omega arith), few_digits 2 800 (omega arith))

-- the line of a refusal
pub refused_most : (why : Refusal) → length (refused_line why) ≤ 29
unfolding fields
refused_most why = let a = number_length (refusal_number why) (10 ∷ []) in let i = decimal_short (refusal_number why) in omega arith

-- a room of the longest report holds any
pub reports_fit : ReportsFit
unfolding report
reports_fit s =
    choice_by (λ (l : List ℕ). length (line SIZE (report_width ∷ report_height ∷ []) l) ≤ longest_report) (ltb report_limit (length s))
    (λ e. let n = size_length (refused_line StreamLength) in let m = refused_most StreamLength in omega arith)
    (λ e. let n = size_length (stream_lines fault_alone report_page s) in let m = stream_length report_page s (ltb-false report_limit (length s) e) in omega arith)
