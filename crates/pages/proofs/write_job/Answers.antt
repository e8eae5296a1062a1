-- `pages::write_job` is safe: its parts lie within its arrays, and a job that is not refused may be drawn. Assumes nothing.
use Rattle.std.proofs.Common.{rules}
use Rattle.pages_step.proofs.Stepping.{taken_job}
use Rattle.pages.proofs.write_job.Goals as goal

pub write_pages-requires : goal.write_pages-requires
write_pages-requires g c =
    let job = taken_job c.begin-first.ensures c.if-first.false in
    record { h_value = job.0; s_len_bound = job.1; longest_lines_in_bounds = search rules }
