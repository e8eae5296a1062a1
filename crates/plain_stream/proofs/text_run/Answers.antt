-- `plain_stream::text_run` meets its contract. Assumes nothing.
use Rattle.plain_stream.proofs.Runs.{running_more, running_ends, running_over}
use Rattle.plain_stream.proofs.text_run.Goals as goal

pub returns-then-not-is_text : goal.returns-then-not-is_text
returns-then-not-is_text c = running_ends _ _ c.loop-n.invariant _ c.is_text.ensures c.loop-n-test.true c.if-not-is_text.true

pub loop-n-preserved : goal.loop-n-preserved
loop-n-preserved c = running_more _ _ c.loop-n.invariant _ c.is_text.ensures c.loop-n-test.true c.if-not-is_text.false

pub returns : goal.returns
returns c = running_over _ _ c.loop-n.invariant c.loop-n-test.false c.loop-n.auto.n-end
