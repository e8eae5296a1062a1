-- `read_number::read_digits` meets its contract: a digit, another byte, or the end. Assumes nothing.
use mathlib.Core.Path.{refl, sym, ◌∙◌}
use native.Mathlib.Omega.{arith}
use lib.ListN.{get_or}
use Rattle.read_number.proofs.Reading.{counting_again, counting_stop, counting_end}
use Rattle.read_number.proofs.read_digits.Goals as goal

pub loop-i-preserved : goal.loop-i-preserved
loop-i-preserved c =
    counting_again _ _ _ _ c.loop-i.invariant _ (get_or c.args.s.now c.loop-i.i 0) c.loop-i-test.true refl c.if-is_ascii_digit.ensures.cases.0 (omega (arith, c.if-is_ascii_digit.ensures.cases.1)) c.one_more-n.ensures

pub returns-else-is_ascii_digit : goal.returns-else-is_ascii_digit
returns-else-is_ascii_digit c =
    counting_stop _ _ _ _ c.loop-i.invariant (get_or c.args.s.now c.loop-i.i 0) c.loop-i-test.true refl (sym c.is_ascii_digit.ensures.value ∙ c.if-is_ascii_digit.false)

pub returns-after-loop-i : goal.returns-after-loop-i
returns-after-loop-i c = counting_end _ _ _ _ c.loop-i.invariant c.loop-i-test.false
