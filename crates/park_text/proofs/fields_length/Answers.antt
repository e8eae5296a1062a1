-- `park_text::fields_length` meets its contract. Assumes nothing.
use Rattle.std.proofs.Common.{arith}
use Rattle.park_text.proofs.Counting.{counts_start, fields_count, fields_counted}
use Rattle.park_text.proofs.fields_length.Goals as goal

pub loop-n-init : goal.loop-n-init
loop-n-init c = counts_start _ _

pub loop-n-preserved : goal.loop-n-preserved
loop-n-preserved c = fields_count c.args.numbers.now c.loop-n.count c.loop-n.n-index c.loop-n.invariant c.field_length-count.result c.loop-n-test.true c.field_length-count.ensures

pub returns : goal.returns
returns c = fields_counted c.args.numbers.now c.loop-n.count c.loop-n.n-index c.loop-n.invariant c.loop-n-test.false (omega arith) c.requires
