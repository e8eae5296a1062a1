-- `plain_stream::write_stream` meets its contract. Assumes nothing.
use Rattle.plain_stream.proofs.Runs.{run_some, rest_whole, text_less}
use Rattle.plain_stream.proofs.Telling.{telling_long, telling_small, telling_beyond, telling_over, walking_first, walking_depth, walking_zero, walking_text, stay_less, walking_stays, deed_long, deed_seed, deed_less, walking_deed}
use mathlib.Core.Path.{◌≡◌, sym, ◌∙◌}
use Prim.Native.Nat.{◌+◌, ◌-◌, min}
use native.Mathlib.Omega.{arith}
use lib.ListN.{drop}
use borrow.Author.Rules.{rules}
use Rattle.plain_stream.specs.Runs.{text_run}
use Rattle.plain_stream.proofs.write_stream.Goals as goal

pub loop-end-init : goal.loop-end-init
loop-end-init c = walking_first _ _ _ _ _ _ c.requires.0 c.afresh-t.ensures c.pen_of-pen.ensures

pub shape_of-room-then-most-end : goal.shape_of-room-then-most-end
shape_of-room-then-most-end c = telling_long _ _ _ _ _ _ _ _ c.loop-end.invariant.telling

pub returns-then-most-end : goal.returns-then-most-end
returns-then-most-end c = telling_beyond _ c.requires.0 _ _ _ _ _ _ _ c.loop-end.invariant.telling c.if-most-end.true

pub shape_of-room-then-is_over : goal.shape_of-room-then-is_over
shape_of-room-then-is_over c = telling_long _ _ _ _ _ _ _ _ c.loop-end.invariant.telling

pub returns-then-is_over : goal.returns-then-is_over
returns-then-is_over c = telling_over _ c.requires.0 _ _ _ _ _ _ _ c.loop-end.invariant.telling _ c.is_over.ensures c.if-is_over.true

pub loop-end-smaller-then-text_next : goal.loop-end-smaller-then-text_next
loop-end-smaller-then-text_next c =
    let k : c.write_text-n.result ≡ min (text_run (drop c.loop-end.at c.args.s.now)) (c.args.most - c.loop-end.end + 1) = rw (rest_whole c.args.s.now c.loop-end.at) at c.write_text-n.ensures.0 in
    let z = run_some c.args.s.now c.loop-end.at c.loop-end.sequence _ c.text_next.ensures c.if-text_next.true in
    text_less c.args.s.now c.loop-end.at c.loop-end.sequence c.write_text-n.result _ c.text_next.ensures c.if-text_next.true (omega (arith, z, k))

pub loop-end-preserved-then-text_next : goal.loop-end-preserved-then-text_next
loop-end-preserved-then-text_next c =
    let k : c.write_text-n.result ≡ min (text_run (drop c.loop-end.at c.args.s.now)) (c.args.most - c.loop-end.end + 1) = rw (rest_whole c.args.s.now c.loop-end.at) at c.write_text-n.ensures.0 in
    walking_text _ c.requires.0 _ _ _ _ _ _ _ _ _ _ c.loop-end.invariant _ c.text_next.ensures c.if-text_next.true _ (omega (arith, k)) (omega (arith, k, c.if-most-end.false)) _ _ (rw (rest_whole c.args.s.now c.loop-end.at) at c.write_text-n.ensures.1)

pub loop-end-smaller-then-stays : goal.loop-end-smaller-then-stays
loop-end-smaller-then-stays c = stay_less _ c.requires.0 _ _ _ _ _ _ _ _ _ _ c.loop-end.invariant _ c.is_over.ensures c.if-is_over.false _ c.read_item-r.ensures (sym (c.stays.ensures _) ∙ c.if-stays.true)

pub loop-end-preserved-then-stays : goal.loop-end-preserved-then-stays
loop-end-preserved-then-stays c = walking_stays _ c.requires.0 _ _ _ _ _ _ _ _ _ _ c.loop-end.invariant _ c.is_over.ensures c.if-is_over.false _ c.read_item-r.ensures (sym (c.stays.ensures _) ∙ c.if-stays.true) c.if-most-end.false _ _ (c.write_still-end.ensures c.args.s.now)

pub do_item-d-requires : goal.do_item-d-requires
do_item-d-requires c = record {
  bounded = (walking_depth _ c.requires.0 _ _ _ _ _ _ _ _ _ _ c.loop-end.invariant, walking_zero _ c.requires.0 _ _ _ _ _ _ _ _ _ _ c.loop-end.invariant);
  i_bound = (c.read_item-r.ensures.ordered, omega (arith, c.read_item-r.ensures.ended, c.read_item-r.ensures.inside, c.loop-end.invariant.telling.inside));
}

pub slice_bounds-write_done-end : goal.slice_bounds-write_done-end
slice_bounds-write_done-end c = let z = deed_long _ c.requires.0 _ _ _ _ _ _ _ _ _ _ c.loop-end.invariant _ c.is_over.ensures c.if-is_over.false _ _ _ _ _ c.read_item-r.ensures c.do_item-d.ensures in search rules

pub write_done-end-requires : goal.write_done-end-requires
write_done-end-requires c = rw c.wide.ensures (c.read_item-r.ensures.ordered, omega (arith, c.read_item-r.ensures.ended, c.read_item-r.ensures.inside, c.loop-end.invariant.telling.inside), c.read_item-r.ensures.counted, c.requires.0.wide, deed_seed _ c.requires.0 _ _ _ _ _ _ _ _ _ _ c.loop-end.invariant _ c.is_over.ensures c.if-is_over.false _ _ _ _ _ c.read_item-r.ensures c.do_item-d.ensures, telling_small _ c.requires.0 _ _ _ _ _ _ _ c.loop-end.invariant.telling c.requires.1)

pub loop-end-smaller : goal.loop-end-smaller
loop-end-smaller c = deed_less _ c.requires.0 _ _ _ _ _ _ _ _ _ _ c.loop-end.invariant _ c.is_over.ensures c.if-is_over.false _ _ _ _ _ c.read_item-r.ensures c.do_item-d.ensures

pub loop-end-preserved : goal.loop-end-preserved
loop-end-preserved c = walking_deed _ c.requires.0 _ _ _ _ _ _ _ _ _ _ c.loop-end.invariant _ c.is_over.ensures c.if-is_over.false _ _ _ _ _ c.read_item-r.ensures c.do_item-d.ensures c.if-most-end.false c.do_item-d.new.page _ _ (search rules) (rw c.wide.ensures at c.write_done-end.ensures)
