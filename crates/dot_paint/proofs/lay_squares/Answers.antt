-- `dot_paint::lay_squares` meets its contract. Assumes nothing.
use mathlib.Core.Path.{refl}
use Prim.Native.Nat.{◌*◌}
use native.Mathlib.Omega.{arith}
use Rattle.dot_paint.proofs.Squares.{square_room, zeros_length, squares_inside, squares_length, lines_squared}
use Rattle.dot_paint.proofs.lay_squares.Goals as goal

pub overflow_mul-m : goal.overflow_mul-m
overflow_mul-m c = let r = square_room _ _ _ _ _ c.requires.0 c.requires.1 c.requires.2 c.div_ceil.ensures c.min-n.ensures in omega arith

pub slice_bounds-ink-end : goal.slice_bounds-ink-end
slice_bounds-ink-end c = square_room _ _ _ _ _ c.requires.0 c.requires.1 c.requires.2 c.div_ceil.ensures c.min-n.ensures

pub slice_bounds-squares-end : goal.slice_bounds-squares-end
slice_bounds-squares-end c = zeros_length _ 600 (square_room _ _ _ _ _ c.requires.0 c.requires.1 c.requires.2 c.div_ceil.ensures c.min-n.ensures)

pub squares-requires : goal.squares-requires
squares-requires c =
    let z = zeros_length (c.args.dots * c.min-n.result) 600 (square_room _ _ _ _ _ c.requires.0 c.requires.1 c.requires.2 c.div_ceil.ensures c.min-n.ensures) in
    (c.requires.0, c.requires.1, omega arith, omega arith)

pub slice_bounds-ink-end-2 : goal.slice_bounds-ink-end-2
slice_bounds-ink-end-2 c =
    squares_inside _ _ _ _ _ _ _ (zeros_length _ 600 (square_room _ _ _ _ _ c.requires.0 c.requires.1 c.requires.2 c.div_ceil.ensures c.min-n.ensures)) c.squares.ensures

pub slice_bounds-paint_lines-end : goal.slice_bounds-paint_lines-end
slice_bounds-paint_lines-end c =
    squares_length _ _ _ _ _ _ _ (zeros_length _ 600 (square_room _ _ _ _ _ c.requires.0 c.requires.1 c.requires.2 c.div_ceil.ensures c.min-n.ensures)) c.squares.ensures

pub returns : goal.returns
returns c =
    lines_squared _ _ _ _ _ _ _ (zeros_length _ 600 (square_room _ _ _ _ _ c.requires.0 c.requires.1 c.requires.2 c.div_ceil.ensures c.min-n.ensures)) c.squares.ensures _ _ _ _ _ _ c.requires.0 c.requires.1 c.requires.3 c.div_ceil.ensures c.min-n.ensures refl c.paint_lines.ensures
