-- `plain_translate::translate` meets its contract. Assumes nothing.
use mathlib.Core.Path.{sym, ◌∙◌}
use borrow.Author.Rules.{rules}
use Rattle.std.proofs.lemmas.Result.{err_from_is_err_and}
use Rattle.run.proofs.Answers.{page_there, page_none}
use Rattle.plain_translate.proofs.Answers.{no_measure, no_stream, no_room_lem, carried}
use Rattle.plain_translate.proofs.translate.Goals as goal

pub returns-in_err-g : goal.returns-in_err-g
returns-in_err-g c =
    let p = err_from_is_err_and c.from_residual.result c.from_residual.ensures.1 in
    let a = page_none _ _ _ c.page_of.ensures _ (sym c.ok_or.ensures.value ∙ c.in_err-g.was) in
    rw (p.1, p.2, a.1) (no_measure _ _ _ _ a.0)

pub returns-then-s-gt-LONGEST_STREAM : goal.returns-then-s-gt-LONGEST_STREAM
returns-then-s-gt-LONGEST_STREAM c =
    let k = page_there _ _ _ c.page_of.ensures _ (rw c.in_ok-g.was at c.ok_or.ensures.ok_part) in
    no_stream _ _ _ _ _ k c.if-s-gt-LONGEST_STREAM.true

pub write_stream-n-requires : goal.write_stream-n-requires
write_stream-n-requires c =
    let k = page_there _ _ _ c.page_of.ensures _ (rw c.in_ok-g.was at c.ok_or.ensures.ok_part) in
    (k.fits, c.if-s-gt-LONGEST_STREAM.false)

pub returns-then-most-n : goal.returns-then-most-n
returns-then-most-n c =
    let k = page_there _ _ _ c.page_of.ensures _ (rw c.in_ok-g.was at c.ok_or.ensures.ok_part) in
    no_room_lem _ _ _ _ _ k c.if-s-gt-LONGEST_STREAM.false _ c.min-most.ensures _ c.write_stream-n.new.room _ c.write_stream-n.ensures (search rules) c.if-most-n.true

pub write_stream-requires : goal.write_stream-requires
write_stream-requires c =
    let k = page_there _ _ _ c.page_of.ensures _ (rw c.in_ok-g.was at c.ok_or.ensures.ok_part) in
    (k.fits, c.if-s-gt-LONGEST_STREAM.false)

pub returns : goal.returns
returns c =
    let k = page_there _ _ _ c.page_of.ensures _ (rw c.in_ok-g.was at c.ok_or.ensures.ok_part) in
    carried _ _ _ _ _ k c.if-s-gt-LONGEST_STREAM.false _ c.min-most.ensures _ c.write_stream-n.new.room _ c.write_stream-n.ensures (search rules) c.if-most-n.false _ _ c.write_stream.ensures
