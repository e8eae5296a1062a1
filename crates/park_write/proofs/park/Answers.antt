-- `park_write::park` meets its contract. Assumes nothing.
use Rattle.std.proofs.Common.{◌≡◌, ◌≤◌, true, false, length, arith, rules}
use Rattle.rules.specs.Measure.{allowed, measure_of}
use Rattle.rules.specs.Sound.{sound}
use Rattle.rules.specs.Park.{is_open}
use Rattle.park_write.proofs.Answers.{page_on, carried}
use Rattle.park_write.proofs.park.Goals as goal

pub returns : goal.returns
returns c =
    let k = page_on (allowed c.args.w c.args.h) (measure_of c.args.w c.args.h) c.in_ok-g.g c.page_of.result c.page_of.ensures (rw c.in_ok-g.was at c.ok_or.ensures.ok_part) in
    let b : sound c.in_ok-g.g c.args.t ≡ true = search rules in
    let d : sound (measure_of c.args.w c.args.h) c.args.t ≡ true = rw k.1 b in
    let o : is_open c.args.t.sequence ≡ false = search rules in
    let e : c.text_length-n.result ≤ length c.args.room.now = omega arith in
    search (carried c.args.w c.args.h c.args.t c.args.room.now k.0 d o c.text_length-n.result c.text_length-n.ensures e, rules)
