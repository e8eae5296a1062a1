-- `run::run` meets its contract. Assumes nothing.
use mathlib.Core.Path.{refl, sym, ◌∙◌}
use borrow.Author.Rules.{rules}
use Rattle.std.proofs.lemmas.Result.{err_from_is_err_and}
use Rattle.run.proofs.Answers.{page_there, page_none, is_sound, no_measure, no_buffer, no_stream, no_state, no_place, carried, part_long}
use Rattle.run.proofs.Ready.{known_part, known_before}
use Rattle.run.proofs.run.Goals as goal

pub returns-in_err-g : goal.returns-in_err-g
returns-in_err-g c =
    let p = err_from_is_err_and c.from_residual.result c.from_residual.ensures.1 in
    let a = page_none _ _ _ c.page_of.ensures _ (sym c.ok_or.ensures.value ∙ c.in_err-g.was) in
    (rw (p.1, p.2, a.1) (no_measure _ _ _ _ _ _ _ a.0), c.requires)

pub returns-then-page-n : goal.returns-then-page-n
returns-then-page-n c =
    let k = page_there _ _ _ c.page_of.ensures _ (rw c.in_ok-g.was at c.ok_or.ensures.ok_part) in
    (no_buffer _ _ _ _ _ _ _ _ k _ (rw (c.high.ensures, c.wide.ensures) refl) c.if-page-n.true, c.requires)

pub returns-then-s-gt-LONGEST_STREAM : goal.returns-then-s-gt-LONGEST_STREAM
returns-then-s-gt-LONGEST_STREAM c =
    let k = page_there _ _ _ c.page_of.ensures _ (rw c.in_ok-g.was at c.ok_or.ensures.ok_part) in
    (no_stream _ _ _ _ _ _ _ _ k _ (rw (c.high.ensures, c.wide.ensures) refl) c.if-page-n.false c.if-s-gt-LONGEST_STREAM.true, c.requires)

pub returns-then-not-sound : goal.returns-then-not-sound
returns-then-not-sound c =
    let k = page_there _ _ _ c.page_of.ensures _ (rw c.in_ok-g.was at c.ok_or.ensures.ok_part) in
    (no_state _ _ _ _ _ _ _ _ k _ (rw (c.high.ensures, c.wide.ensures) refl) c.if-page-n.false c.if-s-gt-LONGEST_STREAM.false _ c.sound.ensures c.if-not-sound.true, c.requires)

pub returns-then-s-place : goal.returns-then-s-place
returns-then-s-place c =
    let k = page_there _ _ _ c.page_of.ensures _ (rw c.in_ok-g.was at c.ok_or.ensures.ok_part) in
    (no_place _ _ _ _ _ _ _ _ k _ (rw (c.high.ensures, c.wide.ensures) refl) c.if-page-n.false c.if-s-gt-LONGEST_STREAM.false _ c.sound.ensures c.if-not-sound.false c.if-s-place.true, c.requires)

pub run_page-requires : goal.run_page-requires
run_page-requires c =
    let k = page_there _ _ _ c.page_of.ensures _ (rw c.in_ok-g.was at c.ok_or.ensures.ok_part) in
    (c.if-s-place.false, k.fits, (search rules), is_sound _ _ _ c.sound.ensures c.if-not-sound.false, part_long _ _ _ c.if-page-n.false (rw (c.high.ensures, c.wide.ensures) refl), known_part _ _ _ _ c.if-page-n.false c.min.ensures c.requires)

pub returns : goal.returns
returns c =
    let k = page_there _ _ _ c.page_of.ensures _ (rw c.in_ok-g.was at c.ok_or.ensures.ok_part) in
    (carried _ _ _ _ _ _ _ _ k _ (rw (c.high.ensures, c.wide.ensures) refl) c.if-page-n.false c.if-s-gt-LONGEST_STREAM.false _ c.sound.ensures c.if-not-sound.false _ _ c.if-s-place.false c.run_page.ensures.0, known_before _ _ _ c.run_page.ensures.1)
