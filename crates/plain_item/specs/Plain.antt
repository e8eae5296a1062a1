-- What an item comes to in the plain stream: from the item, its finding, and the row that it left as seed row.
use Rattle.std.specs.Prelude.{cond, List, [], ◌∷◌, ℕ, ◌+◌, ◌≤◌}
use Rattle.rules.specs.declared.Command.{Command}
use Rattle.rules.specs.declared.Command.TheVariants.{Valued, Method, Print, Row, Unknown}
use Rattle.rules.specs.declared.Finding.{Finding}
use Rattle.rules.specs.Findings.{is_clean}
use Rattle.rules.specs.Commands.{whole, use_of, used_value, is_negative}
use Rattle.rules.specs.Items as rule
use Rattle.rules.specs.Acts.{order, print, draw}
use Rattle.rules.specs.Plain.{put}
use Rattle.common.specs.Stores.{Puts}
use Rattle.plain_short.specs.Bytes.{plain_code, plain_two}

-- `Puts` of few bytes: a payload and what stands before it
pub record PutsShort (before : List ℕ) (n : ℕ) (w after : List ℕ) (r : ℕ) : Type 0 where
  pub puts : Puts before n w after r
  pub small : r ≤ n + 32791

-- "each command as its own sequence ended by a capital; rows as *b#W with the bytes up to the last nonzero one"; "*b#M [is] dropped".
-- A damaged row has finding 7 and is drawn, so only a negative value drops a row.
unfoldable pub plain_command : Command → List ℕ → Finding → List ℕ → List ℕ
plain_command (Valued k v) p f row = cond (is_clean f) (put (order k (used_value (use_of k) v)) []) []
plain_command (Method v) p f row = []
plain_command (Print v) p f row = cond (is_negative whole v) [] (put (print p) [])
plain_command (Row v) p f row = cond (is_negative whole v) [] (put (draw row) [])
plain_command Unknown p f row = []

-- "text, codes and two-byte commands as they are"; "items with findings 1 to 6 .. are dropped", as each broken piece is
unfoldable pub plain_item : rule.Item → Finding → List ℕ → List ℕ
plain_item (rule.text b) f row = b ∷ []
plain_item (rule.code b) f row = plain_code b
plain_item (rule.two b) f row = plain_two b f
plain_item (rule.command k p) f row = plain_command k p f row
plain_item (rule.broken x) f row = []
