-- A command written plain: the bytes that name it.
use Rattle.std.specs.Prelude.{ℕ, List, [], ◌∷◌}
use Rattle.rules.specs.declared.Kind.{Kind}
use Rattle.rules.specs.Commands.{spelled}

-- the three bytes that name a command
abbrev pub name_bytes : Kind → List ℕ
name_bytes k = (spelled k).first ∷ (spelled k).group ∷ (spelled k).letter ∷ []
