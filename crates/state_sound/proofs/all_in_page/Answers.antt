-- `state_sound::all_in_page` meets its contract. Assumes nothing.
use Rattle.std.proofs.Common.{rules, tests, sym, ◌∙◌}
use Rattle.std.proofs.lemmas.Iterator.{YieldsList-from_slice}
use Rattle.std.proofs.lemmas.Iterator.Search.{all_from_yields_List}
use Rattle.rules.specs.Sound.{in_page}
use Rattle.state_sound.proofs.Lists.{each_in_page}
use Rattle.state_sound.proofs.all_in_page.Goals as goal

pub returns : goal.returns
returns c = all_from_yields_List (λ p. in_page c.args.g p) _ _ _ c.all.ensures.ran (YieldsList-from_slice c.args.places.now cc) (λ x b q k. search (rules, tests)) ∙ sym (each_in_page _ _)
