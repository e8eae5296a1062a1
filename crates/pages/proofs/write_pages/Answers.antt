-- `pages::write_pages` is safe: a page of the measure lies within the largest. Assumes nothing.
use Rattle.std.proofs.Common.{arith, sym}
use Rattle.pages_step.proofs.Stepping.{allowed_bytes, allowed_within, part_length}
use Rattle.pages.proofs.write_pages.Goals as goal

pub overflow_mul-bytes : goal.overflow_mul-bytes
overflow_mul-bytes g c = omega (arith, allowed_bytes _ _ c.requires.h_value)

pub slice_bounds-page-end : goal.slice_bounds-page-end
slice_bounds-page-end g c = allowed_within _ _ _ c.requires.h_value c.largest_page-page.ensures.bytes

pub slice_bounds-write_steps-end : goal.slice_bounds-write_steps-end
slice_bounds-write_steps-end g c =
    part_length _ _ (allowed_within _ _ _ c.requires.h_value c.largest_page-page.ensures.bytes)

pub write_steps-requires : goal.write_steps-requires
write_steps-requires g c = record {
  h_value = c.requires.h_value;
  page_len = sym (part_length _ _ (allowed_within _ _ _ c.requires.h_value c.largest_page-page.ensures.bytes));
  s_len_bound = c.requires.s_len_bound;
  longest_lines_in_bounds = c.requires.longest_lines_in_bounds;
}
