-- A run of text where no sequence is open.
use Rattle.std.specs.Prelude.{cond, List, [], ◌∷◌, ℕ, ◌+◌}
use Rattle.rules.specs.Items.{is_text}

-- how many bytes at the front are "space (32) and text (33..126, 128..255)"
unfoldable pub text_run : List ℕ → ℕ
text_run [] = 0
text_run (b ∷ s) = cond (is_text b) (1 + text_run s) 0
