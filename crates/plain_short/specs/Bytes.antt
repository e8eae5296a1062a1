-- What an item of one byte or two comes to in the plain stream.
use Rattle.std.specs.Prelude.{cond, List, [], ◌∷◌, ℕ}
use Rattle.common.specs.Choice.{one_of}
use Rattle.rules.specs.declared.Code.TheVariants.{CarriageReturn, LineFeed, FormFeed, Backspace, Tab}
use Rattle.rules.specs.declared.Finding.{Finding}
use Rattle.rules.specs.Findings.{is_clean}
use Rattle.rules.specs.Codes.{code_byte}

-- the control codes that do something: "ignored codes .. are dropped"
abbrev pub carried_codes : List ℕ
carried_codes = code_byte CarriageReturn ∷ code_byte LineFeed ∷ code_byte FormFeed ∷ code_byte Backspace ∷ code_byte Tab ∷ []

-- a control code: "codes .. as they are"; "ignored codes .. are dropped"
abbrev pub plain_code : ℕ → List ℕ
plain_code b = cond (one_of carried_codes b) (b ∷ []) []

-- a two-byte command that had the finding f: "two-byte commands as they are"; "items with findings 1 to 6 .. are dropped"
abbrev pub plain_two : ℕ → Finding → List ℕ
plain_two b f = cond (is_clean f) (27 ∷ b ∷ []) []
