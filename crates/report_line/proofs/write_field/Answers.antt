-- A field is a tab and its number.
use Rattle.common.proofs.Writing.{written_both}
use Rattle.report_line.proofs.write_field.Goals as goal

pub returns : goal.returns
returns c = written_both c.put.ensures c.write_decimal.ensures
