-- Document 01, "Cutting a cube": "A cube's address is its level and the grid numbers of its lowest corner."
use Rattle.std.specs.Prelude.{Bool, true, false, ◌&&◌, ℕ, ◌+◌, ◌*◌, ◌-◌, ◌/◌, ◌^◌, leb, ltb}
use Rattle.definitions.specs.Jacobian.{side}

pub record Address : Type 0 where
  pub level : ℕ
  pub a : ℕ
  pub b : ℕ
  pub c : ℕ

-- "A move that can't be made … hands back the same address and says so."
pub record Move : Type 0 where
  pub made : Bool
  pub address : Address

abbrev pub move_if : Bool → Address → Address → Move
move_if true q r = record { made = true; address = r }
move_if false q r = record { made = false; address = q }

-- "an address that is no cube: level past the largest depth, or a grid number not below 2^level"
unfoldable pub is_cell : ℕ → Address → Bool
is_cell depth q = leb q.level depth && (ltb q.a (2 ^ q.level) && (ltb q.b (2 ^ q.level) && ltb q.c (2 ^ q.level)))

abbrev pub is_corner : ℕ → Bool
is_corner n = leb 1 n && leb n 8

-- "A child is one level finer, at twice the grid numbers plus its place (0 or 1 on each axis)" — not past the largest depth.
unfoldable pub child_address : ℕ → Address → ℕ → Move
child_address depth q n = let k = n - 1 in move_if (is_cell depth q && (ltb q.level depth && is_corner n)) q
    (record { level = q.level + 1; a = 2 * q.a + side 0 k; b = 2 * q.b + side 1 k; c = 2 * q.c + side 2 k })

-- "a corner keeps the level and has its own grid numbers, which may reach 2^level"
unfoldable pub corner_address : ℕ → Address → ℕ → Move
corner_address depth q n = let k = n - 1 in move_if (is_cell depth q && is_corner n) q
    (record { level = q.level; a = q.a + side 0 k; b = q.b + side 1 k; c = q.c + side 2 k })

-- "a parent has half the numbers, rounded down, one level coarser" — the whole has none.
unfoldable pub parent_address : ℕ → Address → Move
parent_address depth q = move_if (is_cell depth q && leb 1 q.level) q (record { level = q.level - 1; a = q.a / 2; b = q.b / 2; c = q.c / 2 })
