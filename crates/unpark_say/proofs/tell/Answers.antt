-- `unpark_say::tell` meets its contract. Assumes nothing.
use Rattle.std.proofs.Common.{rules}
use Rattle.std.proofs.lemmas.Result.{err_from_is_err_and}
use Rattle.unpark_say.proofs.Spoken.{long_told, refused_told, held_told}
use Rattle.unpark_say.proofs.tell.Goals as goal

pub returns-then-s-gt-LONGEST_STREAM : goal.returns-then-s-gt-LONGEST_STREAM
returns-then-s-gt-LONGEST_STREAM c = search (long_told, rules)

pub returns-in_err-held : goal.returns-in_err-held
returns-in_err-held c =
    let p = err_from_is_err_and c.from_residual.result c.from_residual.ensures.1 in
    rw (p.1, p.2) (refused_told c.args.s.now c.args.room.now c.args.room.now (search rules) c.in_err-held.field-0.0 c.in_err-held.ensures)

pub returns : goal.returns
returns c =
    let e = rw c.in_ok-held.was at c.unpark.ensures in
    search (held_told, rules)
