-- A negative value writes nothing; else there is a head and the row as it is cut, or the room is full.
use Rattle.std.proofs.Common.{rules}
use Rattle.plain_item.proofs.Writing.{row_none, row_out, row_put}
use Rattle.plain_item.proofs.write_row.Goals as goal

pub returns-then-whole_negative : goal.returns-then-whole_negative
returns-then-whole_negative c = search (row_none, rules)

pub returns-then-room-at : goal.returns-then-room-at
returns-then-room-at c = search (row_out, rules)

pub returns : goal.returns
returns c =
    row_put c.args.v c.args.row.now c.args.room.now c.args.at _ _ _ c.whole_negative.ensures c.if-whole_negative.false c.trimmed-n.ensures.0
    c.trimmed-n.ensures.1 c.requires.1 c.head_length.ensures _ _ c.write_row_head.new.out.at (search rules) c.copy.ensures
