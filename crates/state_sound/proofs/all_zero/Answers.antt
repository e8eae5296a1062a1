-- `state_sound::all_zero` meets its contract. Assumes nothing.
use Rattle.std.proofs.Common.{rules, tests, eqb, sym, ◌∙◌}
use Rattle.std.proofs.lemmas.Iterator.{YieldsList-from_slice}
use Rattle.std.proofs.lemmas.Iterator.Search.{all_from_yields_List}
use Rattle.state_sound.proofs.Lists.{each_zero}
use Rattle.state_sound.proofs.all_zero.Goals as goal

pub returns : goal.returns
returns c = all_from_yields_List (λ b. eqb b 0) _ _ _ c.all.ensures.ran (YieldsList-from_slice c.args.bytes.now cc) (λ x b q k. search (rules, tests)) ∙ sym (each_zero _)
