-- `unpark_read::read_text` meets its contract. Assumes nothing.
use Rattle.std.proofs.Common.{◌≡◌, get_or, replicate, rules}
use Rattle.rules.specs.Measure.{origin}
use Rattle.rules.specs.Texts.{found, wrong, many, line_of}
use Rattle.rules.specs.Forms.{flags_of, JOB}
use Rattle.unpark_lines.specs.Answers.{stored, low_position}
use Rattle.unpark_read.specs.Held.{judged_read}
use Rattle.unpark_read.proofs.Reading.{no_line, no_spots, last_read}
use Rattle.unpark_read.proofs.read_text.Goals as goal

pub returns-in_err-n : goal.returns-in_err-n
unfolding judged_read
returns-in_err-n c =
    let q : wrong ≡ line_of JOB.word (flags_of JOB.members) c.new-reader.result = rw c.in_err-n.was at c.read_job.ensures in
    let z = no_line c.args.s.now (rw c.new-reader.ensures at q) in
    search rules

pub returns-in_err-stack : goal.returns-in_err-stack
unfolding judged_read
returns-in_err-stack c =
    let e : found c.in_ok-n.n c.read_job.new.reader ≡ line_of JOB.word (flags_of JOB.members) c.new-reader.result = rw c.in_ok-n.was at c.read_job.ensures in
    let q : wrong ≡ stored (replicate 20 origin) (many low_position (get_or c.in_ok-n.n 15 0) c.read_job.new.reader) = rw c.in_err-stack.was at c.positions.ensures in
    let z = no_spots c.args.s.now c.in_ok-n.n c.read_job.new.reader (rw c.new-reader.ensures at e) q in
    search rules

pub returns : goal.returns
returns c =
    let e : found c.in_ok-n.n c.read_job.new.reader ≡ line_of JOB.word (flags_of JOB.members) c.new-reader.result = rw c.in_ok-n.was at c.read_job.ensures in
    let q : found c.in_ok-stack.stack c.positions.new.self ≡ stored (replicate 20 origin) (many low_position (get_or c.in_ok-n.n 15 0) c.read_job.new.reader) = rw c.in_ok-stack.was at c.positions.ensures in
    last_read c.args.s.now c.in_ok-n.n c.read_job.new.reader (rw c.new-reader.ensures at e) c.in_ok-stack.stack c.positions.new.self q _ c.read_last.ensures
