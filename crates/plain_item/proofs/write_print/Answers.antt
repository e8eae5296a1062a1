-- A negative value writes nothing; else there is a head and its payload, or the room is full.
use Rattle.std.proofs.Common.{refl, rules}
use Rattle.plain_item.proofs.Writing.{print_none, print_out, print_put}
use Rattle.plain_item.proofs.write_print.Goals as goal

pub returns-then-whole_negative : goal.returns-then-whole_negative
returns-then-whole_negative c = search (print_none, rules)

pub returns-then-room-at : goal.returns-then-room-at
returns-then-room-at c = search (print_out, rules)

pub returns : goal.returns
returns c =
    print_put c.args.v c.args.payload.now c.args.room.now c.args.at _ _ _ c.whole_negative.ensures c.if-whole_negative.false refl c.requires.1
    c.head_length.ensures _ _ c.write_print_head.new.out.at (search rules) c.copy.ensures
