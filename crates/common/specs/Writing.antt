-- Bytes written by a writer into the room that it is lent.
use Rattle.std.specs.Prelude.{◌≡◌, List, ℕ}
use Rattle.common.specs.Stores.{Wrote}
use Rattle.common.specs.declared.writer.Writer.{Writer}

-- the bytes w written from the writer's place on, as far as there is room; its place is then behind them
pub record Written (before : Writer) (w : List ℕ) (after : Writer) : Type 0 where
  -- the room is the one it was lent
  pub same : after.room.ghost_name ≡ before.room.ghost_name
  pub wrote : Wrote before.room.now before.at w after.room.now after.at
