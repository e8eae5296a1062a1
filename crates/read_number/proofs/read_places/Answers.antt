-- `read_number::read_places` meets its contract: a digit, another byte, or the end. Assumes nothing.
use mathlib.Core.Path.{refl, sym, ◌∙◌}
use native.Mathlib.Omega.{arith}
use lib.ListN.{get_or}
use Rattle.read_number.proofs.Reading.{placing_again, placing_stop, placing_end}
use Rattle.read_number.proofs.read_places.Goals.{then-loop-i-test+else-is_ascii_digit, else-loop-i-test}
use Rattle.read_number.proofs.read_places.Goals as goal

pub loop-i-preserved : goal.loop-i-preserved
loop-i-preserved c =
    placing_again _ _ _ _ _ _ c.loop-i.invariant _ (get_or c.args.s.now c.loop-i.i 0) c.loop-i-test.true refl c.if-is_ascii_digit.ensures.cases.0 (omega (arith, c.if-is_ascii_digit.ensures.cases.1)) c.one_place-sum.ensures

pub returns : goal.returns
returns c =
    elim c.loop-i-test.branch [
      | then-loop-i-test+else-is_ascii_digit w ↦
          placing_stop _ _ _ _ _ _ c.loop-i.invariant _ (get_or c.args.s.now c.loop-i.i 0) c.min.ensures w.loop-i-test.true refl
          (sym w.is_ascii_digit.ensures.value ∙ w.if-is_ascii_digit.false)
      | else-loop-i-test w ↦ placing_end _ _ _ _ _ _ c.loop-i.invariant _ c.min.ensures w.loop-i-test.false
    ]
