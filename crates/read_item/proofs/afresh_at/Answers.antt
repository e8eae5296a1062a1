-- `read_item::afresh_at` meets its contract. Assumes nothing.
use native.Mathlib.Omega.{arith}
use Rattle.read_item.proofs.Items.{afresh_escape, afresh_text, afresh_code}
use Rattle.read_item.proofs.afresh_at.Goals.{then-is_text, else-is_text}
use Rattle.read_item.proofs.afresh_at.Goals as goal

pub returns-then-b-eq-ESC : goal.returns-then-b-eq-ESC
returns-then-b-eq-ESC c = afresh_escape c.args.s.now c.args.at c.escape_at.result c.requires c.if-b-eq-ESC.true c.escape_at.ensures

pub returns : goal.returns
returns c =
    elim c.if-is_text.branch [
      | then-is_text w ↦ (rw w.item-is (afresh_text _ _ c.requires c.if-b-eq-ESC.false _ c.is_text.ensures w.if-is_text.true), omega arith)
      | else-is_text w ↦ (rw w.item-is (afresh_code _ _ c.requires c.if-b-eq-ESC.false _ c.is_text.ensures w.if-is_text.false), omega arith)
    ]
