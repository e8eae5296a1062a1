-- `run_items::run_items` meets its contract. Assumes nothing.
use mathlib.Core.Path.{refl}
use Rattle.run_items.proofs.Blank.{blank_known}
use Rattle.run_items.proofs.Turns.{turn_full, turn_over, turn_text, deed_goes, deed_stops, deed_blank}
use Rattle.run_items.proofs.run_items.Goals as goal
use Rattle.run_items.proofs.run_items.Goals.{else-loop-done-test, then-loop-done-test+else-text_next+then-is_over, then-loop-done-test+else-text_next+else-is_over+then-not-goes_on}

pub loop-done-preserved-then-text_next : goal.loop-done-preserved-then-text_next
loop-done-preserved-then-text_next c = record {
  going = turn_text _ c.requires.1 _ _ _ _ _ _ _ _ _ _ _ c.loop-done.invariant.going _ _ c.loop-done-test.true c.text_next.ensures c.if-text_next.true c.typed_pen-pen.ensures;
  unstopped = c.loop-done.invariant.unstopped;
}

pub loop-done-preserved : goal.loop-done-preserved
loop-done-preserved c = record {
  going = deed_goes _ _ _ _ _ _ _ _ _ _ _ _ _ c.loop-done.invariant.going.inside c.read_item-r.ensures c.do_item-d.ensures _ _ c.restacked-pen.ensures.pen c.restacked-pen.ensures.stack
      c.requires.1 _ _ _ c.loop-done.invariant.going c.loop-done-test.true _ c.is_over.ensures c.if-is_over.false _ (rw c.behind-behind.ensures at c.goes_on.ensures) c.if-not-goes_on.false;
  unstopped = c.loop-done.invariant.unstopped;
}

pub returns : goal.returns
returns c = elim c.loop-done-test.branch [
  | else-loop-done-test w ↦ rw (c.core_of.ensures, c.zeros_behind.ensures, w.page-is, w.pen-is, w.stack-is, w.seed-is, w.beside-is, w.sequence-is, w.at-is, w.done-is, w.stop-is, c.loop-done.invariant.unstopped) (
    turn_full _ c.requires.1 _ _ _ _ _ _ _ c.loop-done.invariant.going w.loop-done-test.false,
    blank_known _ _ _ _ _ _ refl (λ u k. c.loop-done.invariant.going.undrawn k u),
  )
  | then-loop-done-test+else-text_next+then-is_over w ↦ rw (c.core_of.ensures, c.zeros_behind.ensures, w.page-is, w.pen-is, w.stack-is, w.seed-is, w.beside-is, w.sequence-is, w.at-is, w.done-is, w.stop-is, c.loop-done.invariant.unstopped) (
    turn_over _ c.requires.1 _ _ _ _ _ _ _ c.loop-done.invariant.going w.loop-done-test.true _ w.is_over.ensures w.if-is_over.true,
    blank_known _ _ _ _ _ _ refl (λ u k. c.loop-done.invariant.going.undrawn k u),
  )
  | then-loop-done-test+else-text_next+else-is_over+then-not-goes_on w ↦ rw (c.core_of.ensures, c.zeros_behind.ensures, w.page-is, w.pen-is, w.stack-is, w.seed-is, w.beside-is, w.sequence-is, w.at-is, w.done-is, w.stop-is, w.behind-behind.ensures) (
    deed_stops _ _ _ _ _ _ _ _ _ _ _ _ _ c.loop-done.invariant.going.inside w.read_item-r.ensures w.do_item-d.ensures _ _ w.restacked-pen.ensures.pen w.restacked-pen.ensures.stack
        c.requires.1 _ _ _ c.loop-done.invariant.going w.loop-done-test.true _ w.is_over.ensures w.if-is_over.false _ (rw w.behind-behind.ensures at w.goes_on.ensures) w.if-not-goes_on.true,
    blank_known _ _ _ _ _ _ refl (deed_blank _ _ _ _ _ _ _ _ _ _ _ _ _ c.loop-done.invariant.going.inside w.read_item-r.ensures w.do_item-d.ensures _ _ w.restacked-pen.ensures.pen w.restacked-pen.ensures.stack
        c.requires.1 _ _ _ c.loop-done.invariant.going w.loop-done-test.true _ w.is_over.ensures w.if-is_over.false),
  )
]
