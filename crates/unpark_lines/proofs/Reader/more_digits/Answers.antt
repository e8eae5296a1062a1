-- `unpark_lines::Reader::more_digits` meets its contract: digit after digit, as far as there are any. Assumes nothing.
use Rattle.std.proofs.Common.{◌≡◌, ◌-◌, true, false, length, sym, ◌∙◌, arith, rules}
use Rattle.std.specs.Char.{is_ascii_digit}
use Rattle.unpark_lines.proofs.Digits.{few_digits, more_digits, digit_bounds, digit_more, digit_none, digit_end, digit_last}
use Rattle.unpark_lines.proofs.Reader.more_digits.Goals as goal

pub overflow_mul-n : goal.overflow_mul-n
overflow_mul-n c = let z = few_digits c.loop.n c.loop.counter c.loop.invariant.0 (omega arith) in omega arith

pub overflow_add-n : goal.overflow_add-n
overflow_add-n c =
    let z = few_digits c.loop.n c.loop.counter c.loop.invariant.0 (omega arith) in
    let d : is_ascii_digit c.in-Some.digit.now ≡ true = search rules in
    let b = digit_bounds c.in-Some.digit.now d in
    omega arith

pub loop-preserved : goal.loop-preserved
loop-preserved c =
    let d : is_ascii_digit c.in-Some.digit.now ≡ true = search rules in
    let b = digit_bounds c.in-Some.digit.now d in
    let e : c.from.result ≡ c.in-Some.digit.now - 48 = search rules in (
      more_digits c.loop.n c.loop.counter c.from.result c.loop.invariant.0 (omega arith),
      rw e (sym (digit_more c.args.most c.loop.counter c.loop.n c.in-Some.digit.now c.loop.self-inside.rest.now c.in-Some.rest.now (omega arith) d c.in-Some.ensures.cases.0) ∙ c.loop.invariant.1),
    )

pub returns-after-loop : goal.returns-after-loop
returns-after-loop c = sym (digit_last c.args.most c.loop.counter c.loop.n c.loop.self-inside.rest.now (omega arith)) ∙ c.loop.invariant.1

pub returns-in_default : goal.returns-in_default
returns-in_default c =
    let e : length c.loop.self-inside.rest.now ≡ 0 = search rules in
    sym (digit_end (c.args.most - c.loop.counter) c.loop.n c.loop.self-inside.rest.now e) ∙ c.loop.invariant.1

pub returns-then-not-is_ascii_digit : goal.returns-then-not-is_ascii_digit
returns-then-not-is_ascii_digit c =
    let d : is_ascii_digit c.in-Some.digit.now ≡ false = search rules in
    sym (digit_none (c.args.most - c.loop.counter) c.loop.n c.in-Some.digit.now c.loop.self-inside.rest.now c.in-Some.rest.now d c.in-Some.ensures.cases.0) ∙ c.loop.invariant.1
