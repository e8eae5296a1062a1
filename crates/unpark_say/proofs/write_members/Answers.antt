-- `unpark_say::write_members` meets its contract: one member after the other. Assumes nothing.
use Rattle.common.proofs.Writing.{written_inside}
use Rattle.unpark_say.proofs.Members.{written_member, members_written}
use Rattle.unpark_say.proofs.write_members.Goals as goal

pub returns : goal.returns
returns c =
    let e = c.numbers_of-n.ensures in
    (written_member _ _ _ _ (rw e at c.write_line.ensures)
    (written_member _ _ _ _ (rw e at c.write_line-2.ensures)
    (written_member _ _ _ _ (rw e at c.write_line-3.ensures)
    (written_member _ _ _ _ (rw e at c.write_line-4.ensures)
    (written_member _ _ _ _ (rw e at c.write_line-5.ensures)
    (written_member _ _ _ _ (rw e at c.write_line-6.ensures)
    (written_member _ _ _ _ (rw e at c.write_line-7.ensures)
    (written_member _ _ _ _ (rw e at c.write_line-8.ensures)
    (written_member _ _ _ _ (rw e at c.write_line-9.ensures)
    (written_member _ _ _ _ (rw e at c.write_line-10.ensures)
    (written_member _ _ _ _ (rw e at c.write_line-11.ensures)
    (written_member _ _ _ _ (rw e at c.write_line-12.ensures)
    (written_member _ _ _ _ (rw e at c.write_line-13.ensures)
    (written_member _ _ _ _ (rw e at c.write_line-14.ensures)
    (written_member _ _ _ _ (rw e at c.write_line-15.ensures)
    (written_member _ _ _ _ (rw e at c.write_line-16.ensures)
    (members_written _ (written_inside c.write_line-16.ensures))))))))))))))))))
