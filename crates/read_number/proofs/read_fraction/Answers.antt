-- `read_number::read_fraction` meets its contract: a point, another byte, or the end. Assumes nothing.
use borrow.Author.Rules.{rules}
use Rattle.read_number.proofs.Reading.{got, got_none, fraction_point, fraction_other, fraction_end}
use Rattle.read_number.proofs.read_fraction.Goals.{in_default-via-in-Some+in_default, in_default-via-in_default}
use Rattle.read_number.proofs.read_fraction.Goals as goal

pub returns-in-Some-eq46 : goal.returns-in-Some-eq46
returns-in-Some-eq46 c =
    let g = got _ _ c.in-Some-eq46.field-0 c.in-Some-eq46.ensures.lookup in
    fraction_point _ _ _ _ g.0 g.1 (search rules) c.read_places.ensures

pub returns-in_default : goal.returns-in_default
returns-in_default c =
    elim c.in_default.branch [
      | in_default-via-in-Some+in_default w ↦
          let g = got _ _ w.in_default.field-0 (rw w.in_default.is at c.get.ensures.lookup) in
          fraction_other _ _ _ _ _ g.0 g.1 (search rules) (search rules)
      | in_default-via-in_default w ↦ fraction_end _ _ _ _ (got_none _ _ (rw w.in_default.is at c.get.ensures.lookup)) (search rules)
    ]
