-- `dot_page::count` meets its contract: the ones of the bytes behind the sixteens, and of the sixteens so far, are summed. Assumes nothing.
use mathlib.Core.Path.{◌≡◌, ◌∙◌}
use Prim.Native.Nat.{◌/◌}
use native.Mathlib.Omega.{arith}
use lib.ListN.{length}
use borrow.Author.Rules.{rules}
use Rattle.common.specs.Bits.{ones_all}
use Rattle.dot_page.proofs.Bytes.{summing_starts, summing_more, summing_ends}
use Rattle.dot_page.proofs.count.Goals as goal

pub loop-bytes-init : goal.loop-bytes-init
loop-bytes-init c = search (summing_starts, rules)

pub loop-bytes-preserved : goal.loop-bytes-preserved
loop-bytes-preserved c =
    summing_more _ _ _ _ _ c.loop-bytes.invariant (omega arith) (c.from-sum-in-loop-bytes.ensures ∙ c.few-in-loop-bytes.ensures) (omega arith)

pub returns : goal.returns
returns c =
    let page = c.args.page.now in
    let r : c.from-sum.result ≡ ones_all c.as_chunks.result.1.now = c.from-sum.ensures ∙ c.few.ensures in
    summing_ends page _ _ 16 (length page / 16) _ _ _ c.loop-bytes.invariant (omega arith) c.as_chunks.ensures.front c.as_chunks.ensures.back r
