-- `unpark_lines::Reader::more_digits` meets its contract: digit after digit, as far as there are any. Assumes nothing.
use Rattle.std.proofs.Common.{◌≡◌, ◌+◌, ◌-◌, ◌^◌, ◌<◌}
use Rattle.rules.specs.Texts.{up_to}
use Rattle.unpark_lines.proofs.Reader.more_digits.Given as goal

-- so many digits are read, and with those that may follow they make the same number
abbrev pub invariant-loop : goal.invariant-loop
invariant-loop l =
    (l.n < 10 ^ (l.counter + 1)) × (up_to (l.most - l.counter) l.n l.self-inside.rest.now ≡ up_to l.most l.first l.fn.self)
