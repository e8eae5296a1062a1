-- `given::word_read` meets its contract: what is read is a word of at most 20 bytes, or none. Assumes nothing.
use mathlib.Core.Path.{refl}
use mathlib.Core.List.{[]}
use native.Mathlib.Omega.{arith}
use lib.ListN.{take, length-take}
use Rattle.given.specs.Words.{ReadBy}
use Rattle.given.proofs.word_read.Goals as goal

pub returns-in-Ok : goal.returns-in-Ok
returns-in-Ok g c =
    let n = c.in-Ok.n in
    let bytes = c.arg.new.buf in
    ReadBy.word (take n bytes) c.read.result (omega (arith, length-take n bytes)) (_, c.read.ensures, refl)

pub returns-in-Err-TooLong : goal.returns-in-Err-TooLong
returns-in-Err-TooLong g c = ReadBy.word [] c.read-in-Err-TooLong.result (omega arith) (_, c.read-in-Err-TooLong.ensures, refl)

pub returns-in-Err-NotPresent : goal.returns-in-Err-NotPresent
returns-in-Err-NotPresent g c = ReadBy.none
