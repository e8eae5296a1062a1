-- The dots of a page, and the squares that a row's bits become.
use Rattle.std.specs.Prelude.{◌≡◌, ◌⊎◌, List, ℕ, ◌+◌, ◌*◌, ◌≤◌, ◌<◌}
use Rattle.common.specs.Bits.{dot}

-- dot (x, y) of a page: y rows of w bytes stand before its row; 1 if it is set
abbrev pub dot_at : ℕ → List ℕ → ℕ → ℕ → ℕ
dot_at w page x y = dot page (8 * (y * w) + x)

-- dot (x, y) is one of the square of bit i of a row: d dots wide and d high. The square of bit 0 has its upper left dot at (left, top), the
-- others stand side by side to the right of it.
pub record InSquare (d left top i x y : ℕ) : Type 0 where
  pub from_left : left + i * d ≤ x
  pub to_right : x < left + i * d + d
  pub from_top : top ≤ y
  pub to_bottom : y < top + d

-- the square of a set bit of the row covers dot (x, y)
pub record Covered (row : List ℕ) (d left top x y : ℕ) : Type 0 where
  pub number : ℕ
  pub set : dot row number ≡ 1
  pub inside : InSquare d left top number x y

-- dot (x, y) is set after the row was painted exactly if it was set before or the square of a set bit covers it
pub record DotRule (w : ℕ) (row : List ℕ) (d left top : ℕ) (page after : List ℕ) (x y : ℕ) : Type 0 where
  pub stays : dot_at w page x y ≡ 1 → dot_at w after x y ≡ 1
  pub becomes : Covered row d left top x y → dot_at w after x y ≡ 1
  pub only : dot_at w after x y ≡ 1 → (dot_at w page x y ≡ 1) ⊎ Covered row d left top x y
