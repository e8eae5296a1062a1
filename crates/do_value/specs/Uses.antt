-- How a command uses its value, as the code names it.
use Rattle.rules.specs.Commands.{Use, position, full, whole, ignored}
use Rattle.do_value.specs.declared.Using.{Using}
use Rattle.do_value.specs.declared.Using.TheVariants.{Position, Full, Whole, Ignored}

-- each case of the code's enum is a case of the rules'
abbrev pub meant : Using → Use
meant Position = position
meant Full = full
meant Whole = whole
meant Ignored = ignored
