-- `read_number::read_value` meets its contract: a plus, a minus, another byte, or the end. Assumes nothing.
use borrow.Author.Rules.{rules}
use Rattle.read_number.proofs.Reading.{got, got_none, value_plus, value_minus, value_none, value_end}
use Rattle.read_number.proofs.read_value.Goals.{in_default-via-in-Some+in_default, in_default-via-in_default}
use Rattle.read_number.proofs.read_value.Goals as goal

pub returns-in-Some-eq43 : goal.returns-in-Some-eq43
returns-in-Some-eq43 c =
    let g = got _ _ c.in-Some-eq43.field-0 c.in-Some-eq43.ensures.lookup in
    value_plus _ _ g.0 c.read_size.ensures _ g.1 (search rules) c.relative.ensures

pub returns-in-Some-eq45 : goal.returns-in-Some-eq45
returns-in-Some-eq45 c =
    let g = got _ _ c.in-Some-eq45.field-0 c.in-Some-eq45.ensures.lookup in
    value_minus _ _ g.0 c.read_size-in-Some-eq45.ensures _ g.1 (search rules) c.relative-in-Some-eq45.ensures

pub returns-in_default : goal.returns-in_default
returns-in_default c =
    elim c.in_default.branch [
      | in_default-via-in-Some+in_default w ↦
          let g = got _ _ w.in_default.field-0 (rw w.in_default.is at c.get.ensures.lookup) in
          value_none _ _ c.read_size-in_default.ensures c.absolute.ensures _ g.0 g.1 (search rules) (search rules)
      | in_default-via-in_default w ↦ value_end _ _ c.read_size-in_default.ensures c.absolute.ensures (got_none _ _ (rw w.in_default.is at c.get.ensures.lookup))
    ]
