-- What the letter of a command says: how it ends the command, and the payload that it asks for.
use Rattle.std.specs.Prelude.{cond, ◌&&◌, ℕ, ◌-◌, ltb, Option, Some, None}
use Rattle.common.specs.Choice.{within}
use Rattle.rules.specs.declared.Value.{Value}
use Rattle.rules.specs.declared.Sequence.{Sequence}
use Rattle.rules.specs.declared.Sequence.TheVariants.{Closed, Open}
use Rattle.rules.specs.Number.{count}
use Rattle.rules.specs.Items.{has_payload}
use Rattle.read_letter.specs.declared.Letter.{Letter}

-- the payload bytes that a command asks for: "none if negative"
abbrev pub asked : ℕ → ℕ → ℕ → Value → ℕ
asked f g l v = cond (has_payload f g l) (count v) 0

-- a letter, as a capital, and the sequence that is open behind it
abbrev pub letter_with : ℕ → Sequence → Letter
letter_with c q = record { capital = c; behind = q }

-- "64..94 ends the sequence; 96..126 is a command (read as its capital) and keeps the sequence open with the same two bytes.
-- Without a group, 96..126 there breaks the sequence."
abbrev pub ending : ℕ → ℕ → ℕ → Option Letter
ending f g b =
    cond (within 64 94 b) (Some (letter_with b Closed)) (cond (within 96 126 b && ltb 0 g) (Some (letter_with (b - 32) (Open f g))) None)
