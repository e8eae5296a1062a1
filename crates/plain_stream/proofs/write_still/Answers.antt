-- `plain_stream::write_still` meets its contract. Assumes nothing.
use Rattle.plain_stream.proofs.Staying.{still_text, still_code, still_none}
use Rattle.plain_stream.proofs.write_still.Goals as goal

pub returns-in-Text : goal.returns-in-Text
returns-in-Text c = still_text _ _ _ _ _ _ c.in-Text.is c.write_one.ensures

pub returns-in-Code : goal.returns-in-Code
returns-in-Code c = still_code _ _ _ _ _ _ c.in-Code.is c.write_code.ensures

pub returns-in_default : goal.returns-in_default
returns-in_default c = still_none _ _ _ c.requires.1 c.in_default.not-Text c.in_default.not-Code
