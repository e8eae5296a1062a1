-- `state_sound::all_free` meets its contract. Assumes nothing.
use Rattle.std.proofs.Common.{rules, tests, ◌&&◌, eqb, sym, ◌∙◌}
use Rattle.std.proofs.lemmas.Iterator.{YieldsList-from_slice}
use Rattle.std.proofs.lemmas.Iterator.Search.{all_from_yields_List}
use Rattle.state_sound.proofs.Lists.{each_free}
use Rattle.state_sound.proofs.all_free.Goals as goal

pub returns : goal.returns
returns c = all_from_yields_List (λ p. eqb p.x 0 && eqb p.y 0) _ _ _ c.all.ensures.ran (YieldsList-from_slice c.args.places.now cc) (λ x b q k. search (rules, tests)) ∙ sym (each_free _)
