-- Paper 01, "Examples on 640 × 800, afresh unless said": 1 to 14, one table, one claim.
use Rattle.std.specs.Prelude.{ℕ, ◌+◌, ◌*◌, Bool, true, ◌&&◌, List, [], ◌∷◌, length, take, drop, get_or, T, eqb}
use Rattle.std.specs.Int.Count.{ones, ones_in}
use Rattle.common.specs.Lists.{trim}
use Rattle.common.specs.Bits.{bit, dot, byte_of, ones_all}
use Rattle.rules.specs.declared.Measure.{Measure}
use Rattle.rules.specs.declared.Finding.TheVariants.{EndsInside}
use Rattle.rules.specs.Findings.{finding_number}
use Rattle.rules.specs.Measure.{measure_of}
use Rattle.rules.specs.States.{fresh_layout, fresh_raster, fresh_core, afresh}
use Rattle.rules.specs.Number.{digits, places, fraction, size, absolute, relative, value}
use Rattle.rules.specs.Commands.{among, chosen, used_value, is_negative}
use Rattle.rules.specs.Items.{payload, letter, parameter, group, behind_escape, read}
use Rattle.rules.specs.Effects.{pushed, popped, started_at, effect, barred}
use Rattle.rules.specs.Codes.{typed, typed_all, coded, escaped}
use Rattle.rules.specs.Rows.{after, placed, is_whole, changed, by_control, decoded}
use Rattle.rules.specs.Dots.{ink, inked_byte, inked_line, inked_lines, painted}
use Rattle.rules.specs.Acts.{World, drawn, next, next_all, beside_after, ends_page, shown, show, show_all, bar, gate, mean_code, mean_two, mean_row, mean_command, mean, step}
use Rattle.rules.specs.Run.{Trace, trace, whole_stream, acts_of, findings_of, acts, pages}

-- what an example asks of the end of its stream
pub data Ask : Type 0 where
  x_is : ℕ → Ask
  y_is : ℕ → Ask
  hmi_is : ℕ → Ask
  dots_are : ℕ → Ask  -- on the page being drawn
  dots_in : ℕ → ℕ → Ask  -- of one page row
  byte_is : ℕ → ℕ → ℕ → Ask  -- of one page row
  seed_is : ℕ → ℕ → Ask  -- of one byte of the seed row
  items_are : ℕ → Ask
  finding_is : ℕ → ℕ → Ask  -- of one item, counted from 0
  pages_are : ℕ → Ask  -- handed over

pub record Example : Type 0 where
  pub stream : List ℕ
  pub asks : List Ask

abbrev pub example : List ℕ → List Ask → Example
example s l = record { stream = s; asks = l }

abbrev pub paper : Measure
paper = measure_of 640 800

unfoldable pub meets : Trace → World → Ask → Bool
meets t w (x_is n) = eqb t.state.core.at.x n
meets t w (y_is n) = eqb t.state.core.at.y n
meets t w (hmi_is n) = eqb t.state.core.layout.hmi n
meets t w (dots_are n) = eqb (ones_all w.page) n
meets t w (dots_in y n) = eqb (ones_all (take 80 (drop (y * 80) w.page))) n
meets t w (byte_is y i n) = eqb (get_or w.page (y * 80 + i) 0) n
meets t w (seed_is i n) = eqb (get_or t.state.core.seed i 0) n
meets t w (items_are n) = eqb (length t.items) n
meets t w (finding_is i n) = eqb (finding_number (get_or (findings_of t.items) i EndsInside)) n
meets t w (pages_are n) = eqb (length w.handed) n

unfoldable pub meets_all : Trace → World → List Ask → Bool
meets_all t w [] = true
meets_all t w (a ∷ l) = meets t w a && meets_all t w l

unfoldable pub holds : Example → Bool
holds e = let t = whole_stream paper e.stream in let w = pages paper e.stream in meets_all t w e.asks

unfoldable pub every : List Example → Bool
every [] = true
every (e ∷ l) = holds e && every l

-- pieces of streams: ESC, the first byte and the group byte
abbrev &a : List ℕ → List ℕ
&a s = 27 ∷ 38 ∷ 97 ∷ s

abbrev &k : List ℕ → List ℕ
&k s = 27 ∷ 38 ∷ 107 ∷ s

abbrev &p : List ℕ → List ℕ
&p s = 27 ∷ 38 ∷ 112 ∷ s

abbrev *p : List ℕ → List ℕ
*p s = 27 ∷ 42 ∷ 112 ∷ s

abbrev *b : List ℕ → List ℕ
*b s = 27 ∷ 42 ∷ 98 ∷ s

-- *b2m5W with the row of example 11, in front of s
abbrev eleven : List ℕ → List ℕ
eleven s = *b (50 ∷ 109 ∷ 53 ∷ 87 ∷ 0xFE ∷ 0xA5 ∷ 0x01 ∷ 0x0F ∷ 0xF0 ∷ s)

unfoldable pub table : List Example
table =
    -- 1. Nothing: x 0, y 4,500.
    example [] (x_is 0 ∷ y_is 4500 ∷ []) ∷
    -- 2. &a10c5R: x 7,200, y 10,500.
    example (&a (49 ∷ 48 ∷ 99 ∷ 53 ∷ 82 ∷ [])) (x_is 7200 ∷ y_is 10500 ∷ []) ∷
    -- 3. &a-5C: x 0.
    example (&a (45 ∷ 53 ∷ 67 ∷ [])) (x_is 0 ∷ []) ∷
    -- 4. *p100x50Y: 2,400, 4,800.
    example (*p (49 ∷ 48 ∷ 48 ∷ 120 ∷ 53 ∷ 48 ∷ 89 ∷ [])) (x_is 2400 ∷ y_is 4800 ∷ []) ∷
    -- 5. &a99999H: x 15,360.
    example (&a (57 ∷ 57 ∷ 57 ∷ 57 ∷ 57 ∷ 72 ∷ [])) (x_is 15360 ∷ []) ∷
    -- 6. &a1.5C: 1,080.
    example (&a (49 ∷ 46 ∷ 53 ∷ 67 ∷ [])) (x_is 1080 ∷ []) ∷
    -- 7. at x 7,200 (by &a10C), &a-0.5C: 6,840.
    example (&a (49 ∷ 48 ∷ 67 ∷ &a (45 ∷ 48 ∷ 46 ∷ 53 ∷ 67 ∷ []))) (x_is 6840 ∷ []) ∷
    -- 8. &k10.5H: HMI 630.
    example (&k (49 ∷ 48 ∷ 46 ∷ 53 ∷ 72 ∷ [])) (hmi_is 630 ∷ []) ∷
    -- 9. &p3X with ESC E A: x 2,160, no reset. One item: the payload is read as nothing else.
    example (&p (51 ∷ 88 ∷ 27 ∷ 69 ∷ 65 ∷ [])) (x_is 2160 ∷ items_are 1 ∷ pages_are 0 ∷ finding_is 0 0 ∷ []) ∷
    -- 10. *b1W, byte 80: 16 dots, rows 187 to 190, y 4,596. Four dots of each of these rows, the first four; none above and none below.
    example (*b (49 ∷ 87 ∷ 0x80 ∷ []))
    (dots_are 16 ∷ dots_in 186 0 ∷ dots_in 187 4 ∷ dots_in 188 4 ∷ dots_in 189 4 ∷ dots_in 190 4 ∷ dots_in 191 0
    ∷ byte_is 187 0 0xF0 ∷ byte_is 188 0 0xF0 ∷ byte_is 189 0 0xF0 ∷ byte_is 190 0 0xF0 ∷ y_is 4596 ∷ []) ∷
    -- 11. method 2, FE A5 01 0F F0: A5 A5 A5 0F F0.
    example (eleven []) (seed_is 0 0xA5 ∷ seed_is 1 0xA5 ∷ seed_is 2 0xA5 ∷ seed_is 3 0x0F ∷ seed_is 4 0xF0 ∷ seed_is 5 0 ∷ []) ∷
    -- 12. then method 3, 21 11 22: A5 11 22 0F F0.
    example (eleven (*b (51 ∷ 109 ∷ 51 ∷ 87 ∷ 0x21 ∷ 0x11 ∷ 0x22 ∷ []))) (seed_is 0 0xA5 ∷ seed_is 1 0x11 ∷ seed_is 2 0x22 ∷ seed_is 3 0x0F ∷ seed_is 4 0xF0 ∷ seed_is 5 0 ∷ []) ∷
    -- 13. zero seed, method 3, 1F 00 77: byte 31 is 77.
    example (*b (51 ∷ 109 ∷ 51 ∷ 87 ∷ 0x1F ∷ 0x00 ∷ 0x77 ∷ [])) (seed_is 30 0 ∷ seed_is 31 0x77 ∷ seed_is 32 0 ∷ []) ∷
    -- 14. method 2, FE only: finding 7, blank, y moves on.
    example (*b (50 ∷ 109 ∷ 49 ∷ 87 ∷ 0xFE ∷ [])) (finding_is 0 0 ∷ finding_is 1 7 ∷ dots_are 0 ∷ y_is 4596 ∷ []) ∷
    []

-- every example holds of the rules
pub examples : T (every table)
unfolding every table holds meets_all meets ones ones_in trim bit dot byte_of fresh_layout fresh_raster fresh_core afresh digits places fraction size absolute relative value among chosen used_value is_negative payload letter parameter group behind_escape read pushed popped started_at effect barred typed typed_all coded escaped after placed is_whole changed by_control decoded ink inked_byte inked_line inked_lines painted drawn next next_all beside_after ends_page shown show show_all bar gate mean_code mean_two mean_row mean_command mean step trace whole_stream acts_of findings_of acts pages ones_all
examples = tt
