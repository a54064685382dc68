-- Document 01, "The 27 coefficients": the numbering, the twenty volumes, the table.
use Rattle.std.specs.Prelude.{List, [], ◌∷◌, ◌++◌, map, ℕ, ◌+◌, ◌*◌, ◌-◌, ◌/◌, get_or, length, take, drop, ℤ, pos, negsuc}
use Rattle.foundation.specs.Polynomial.{Arithmetic, integers}
use Rattle.foundation.specs.Lists.{tabulate, sum}
use Rattle.definitions.specs.Jacobian.{side, Nodes, nodes_of, det}

-- "1 to 8: corners."
abbrev pub corner_numbers : List (List ℕ)
corner_numbers = (1 ∷ []) ∷ (2 ∷ []) ∷ (3 ∷ []) ∷ (4 ∷ []) ∷ (5 ∷ []) ∷ (6 ∷ []) ∷ (7 ∷ []) ∷ (8 ∷ []) ∷ []

-- "9 to 20: edges 1-2, 2-3, 3-4, 1-4, 1-5, 2-6, 3-7, 4-8, 5-6, 6-7, 7-8, 5-8."
abbrev pub edge_numbers : List (List ℕ)
edge_numbers =
    (1 ∷ 2 ∷ []) ∷ (2 ∷ 3 ∷ []) ∷ (3 ∷ 4 ∷ []) ∷ (1 ∷ 4 ∷ []) ∷ (1 ∷ 5 ∷ []) ∷ (2 ∷ 6 ∷ []) ∷
    (3 ∷ 7 ∷ []) ∷ (4 ∷ 8 ∷ []) ∷ (5 ∷ 6 ∷ []) ∷ (6 ∷ 7 ∷ []) ∷ (7 ∷ 8 ∷ []) ∷ (5 ∷ 8 ∷ []) ∷ []

-- "21 to 26: faces 1234, 1256, 2367, 3478, 1458, 5678. 27: the centre."
abbrev pub face_numbers : List (List ℕ)
face_numbers =
    (1 ∷ 2 ∷ 3 ∷ 4 ∷ []) ∷ (1 ∷ 2 ∷ 5 ∷ 6 ∷ []) ∷ (2 ∷ 3 ∷ 6 ∷ 7 ∷ []) ∷
    (3 ∷ 4 ∷ 7 ∷ 8 ∷ []) ∷ (1 ∷ 4 ∷ 5 ∷ 8 ∷ []) ∷ (5 ∷ 6 ∷ 7 ∷ 8 ∷ []) ∷ []

-- the corners that each of the 27 lies between
abbrev pub numbering : List (List ℕ)
numbering = corner_numbers ++ edge_numbers ++ face_numbers ++ ((1 ∷ 2 ∷ 3 ∷ 4 ∷ 5 ∷ 6 ∷ 7 ∷ 8 ∷ []) ∷ [])

-- its place in direction d: 0, 1, 2 for the start, the middle, the end
abbrev pub place : ℕ → List ℕ → ℕ
place d corners = 2 * sum (map (λ n. side d (n - 1)) corners) / length corners

-- the 27 values of f in their numbering
unfoldable pub numbered : (ℕ → ℕ → ℕ → ℤ) → List ℤ
numbered f = map (λ corners. f (place 0 corners) (place 1 corners) (place 2 corners)) numbering

-- the other way: the number, less 1, of each place (i, j, k), at 9i + 3j + k
abbrev pub numbers : List ℕ
numbers = 0 ∷ 12 ∷ 4 ∷ 11 ∷ 24 ∷ 19 ∷ 3 ∷ 15 ∷ 7 ∷ 8 ∷ 21 ∷ 16 ∷ 20 ∷ 26 ∷ 25 ∷ 10 ∷ 23 ∷ 18 ∷ 1 ∷ 13 ∷ 5 ∷ 9 ∷ 22 ∷ 17 ∷ 2 ∷ 14 ∷ 6 ∷ []

unfoldable pub at : List ℤ → ℕ → ℕ → ℕ → ℤ
at c i j k = get_or c (get_or numbers (9 * i + 3 * j + k) 0) (pos 0)

-- "They come from 20 volumes: J at the eight corners and at the twelve edge middles, each six times a tetrahedron's volume."
-- A corner's tetrahedron: the corner and its three neighbours.
abbrev pub corner_tetrahedra : List (List ℕ)
corner_tetrahedra =
    (1 ∷ 2 ∷ 4 ∷ 5 ∷ []) ∷ (2 ∷ 3 ∷ 1 ∷ 6 ∷ []) ∷ (3 ∷ 4 ∷ 2 ∷ 7 ∷ []) ∷ (4 ∷ 1 ∷ 3 ∷ 8 ∷ []) ∷
    (5 ∷ 8 ∷ 6 ∷ 1 ∷ []) ∷ (6 ∷ 5 ∷ 7 ∷ 2 ∷ []) ∷ (7 ∷ 6 ∷ 8 ∷ 3 ∷ []) ∷ (8 ∷ 7 ∷ 5 ∷ 4 ∷ []) ∷ []

-- "For edge 1-2 it is the tetrahedron n1, n2, (n3+n4)/2, (n5+n6)/2." The ends, and the two pairs whose middles are the other vertices.
abbrev pub edge_tetrahedra : List (List ℕ)
edge_tetrahedra =
    (1 ∷ 2 ∷ 3 ∷ 4 ∷ 5 ∷ 6 ∷ []) ∷ (2 ∷ 3 ∷ 1 ∷ 4 ∷ 6 ∷ 7 ∷ []) ∷ (3 ∷ 4 ∷ 1 ∷ 2 ∷ 7 ∷ 8 ∷ []) ∷ (1 ∷ 4 ∷ 5 ∷ 8 ∷ 2 ∷ 3 ∷ []) ∷
    (1 ∷ 5 ∷ 2 ∷ 6 ∷ 4 ∷ 8 ∷ []) ∷ (2 ∷ 6 ∷ 3 ∷ 7 ∷ 1 ∷ 5 ∷ []) ∷ (3 ∷ 7 ∷ 4 ∷ 8 ∷ 2 ∷ 6 ∷ []) ∷ (4 ∷ 8 ∷ 1 ∷ 5 ∷ 3 ∷ 7 ∷ []) ∷
    (5 ∷ 6 ∷ 1 ∷ 2 ∷ 7 ∷ 8 ∷ []) ∷ (6 ∷ 7 ∷ 2 ∷ 3 ∷ 5 ∷ 8 ∷ []) ∷ (7 ∷ 8 ∷ 3 ∷ 4 ∷ 5 ∷ 6 ∷ []) ∷ (5 ∷ 8 ∷ 6 ∷ 7 ∷ 1 ∷ 4 ∷ []) ∷ []

module _ {A : Type 0} (o : Arithmetic A) (x : Nodes A) where
  infixl 6 ◌⊕◌
  infixl 6 ◌⊖◌
  open o use {plus as ◌⊕◌, minus as ◌⊖◌}

  -- from node p to node q, by their numbers
  abbrev pub edge : ℕ → ℕ → ℕ → A
  edge p q e = x (q - 1) e ⊖ x (p - 1) e

  -- from node p to the middle of nodes q and r, twice
  abbrev pub middle : ℕ → ℕ → ℕ → ℕ → A
  middle p q r e = edge p q e ⊕ edge p r e

  -- J at a corner
  abbrev pub corner_volume : List ℕ → A
  corner_volume t = let n : ℕ → ℕ = λ i. get_or t i 0 in det o (edge (n 0) (n 1)) (edge (n 0) (n 2)) (edge (n 0) (n 3))

  -- "Four times an edge value is whole": 4 J at an edge's middle
  abbrev pub edge_volume : List ℕ → A
  edge_volume t = let n : ℕ → ℕ = λ i. get_or t i 0 in det o (edge (n 0) (n 1)) (middle (n 0) (n 2) (n 3)) (middle (n 0) (n 4) (n 5))

  abbrev pub volumes : List A
  volumes = map corner_volume corner_tetrahedra ++ map edge_volume edge_tetrahedra

-- "a constant table of 540 whole numbers, 27 rows of 20"
abbrev pub table : List ℤ
table =
    pos 8 ∷ pos 0 ∷ pos 0 ∷ pos 0 ∷ pos 0 ∷ pos 0 ∷ pos 0 ∷ pos 0 ∷ pos 0 ∷ pos 0 ∷ pos 0 ∷ pos 0 ∷ pos 0 ∷ pos 0 ∷ pos 0 ∷ pos 0 ∷ pos 0 ∷ pos 0 ∷ pos 0 ∷ pos 0 ∷
    pos 0 ∷ pos 8 ∷ pos 0 ∷ pos 0 ∷ pos 0 ∷ pos 0 ∷ pos 0 ∷ pos 0 ∷ pos 0 ∷ pos 0 ∷ pos 0 ∷ pos 0 ∷ pos 0 ∷ pos 0 ∷ pos 0 ∷ pos 0 ∷ pos 0 ∷ pos 0 ∷ pos 0 ∷ pos 0 ∷
    pos 0 ∷ pos 0 ∷ pos 8 ∷ pos 0 ∷ pos 0 ∷ pos 0 ∷ pos 0 ∷ pos 0 ∷ pos 0 ∷ pos 0 ∷ pos 0 ∷ pos 0 ∷ pos 0 ∷ pos 0 ∷ pos 0 ∷ pos 0 ∷ pos 0 ∷ pos 0 ∷ pos 0 ∷ pos 0 ∷
    pos 0 ∷ pos 0 ∷ pos 0 ∷ pos 8 ∷ pos 0 ∷ pos 0 ∷ pos 0 ∷ pos 0 ∷ pos 0 ∷ pos 0 ∷ pos 0 ∷ pos 0 ∷ pos 0 ∷ pos 0 ∷ pos 0 ∷ pos 0 ∷ pos 0 ∷ pos 0 ∷ pos 0 ∷ pos 0 ∷
    pos 0 ∷ pos 0 ∷ pos 0 ∷ pos 0 ∷ pos 8 ∷ pos 0 ∷ pos 0 ∷ pos 0 ∷ pos 0 ∷ pos 0 ∷ pos 0 ∷ pos 0 ∷ pos 0 ∷ pos 0 ∷ pos 0 ∷ pos 0 ∷ pos 0 ∷ pos 0 ∷ pos 0 ∷ pos 0 ∷
    pos 0 ∷ pos 0 ∷ pos 0 ∷ pos 0 ∷ pos 0 ∷ pos 8 ∷ pos 0 ∷ pos 0 ∷ pos 0 ∷ pos 0 ∷ pos 0 ∷ pos 0 ∷ pos 0 ∷ pos 0 ∷ pos 0 ∷ pos 0 ∷ pos 0 ∷ pos 0 ∷ pos 0 ∷ pos 0 ∷
    pos 0 ∷ pos 0 ∷ pos 0 ∷ pos 0 ∷ pos 0 ∷ pos 0 ∷ pos 8 ∷ pos 0 ∷ pos 0 ∷ pos 0 ∷ pos 0 ∷ pos 0 ∷ pos 0 ∷ pos 0 ∷ pos 0 ∷ pos 0 ∷ pos 0 ∷ pos 0 ∷ pos 0 ∷ pos 0 ∷
    pos 0 ∷ pos 0 ∷ pos 0 ∷ pos 0 ∷ pos 0 ∷ pos 0 ∷ pos 0 ∷ pos 8 ∷ pos 0 ∷ pos 0 ∷ pos 0 ∷ pos 0 ∷ pos 0 ∷ pos 0 ∷ pos 0 ∷ pos 0 ∷ pos 0 ∷ pos 0 ∷ pos 0 ∷ pos 0 ∷
    negsuc 3 ∷ negsuc 3 ∷ pos 0 ∷ pos 0 ∷ pos 0 ∷ pos 0 ∷ pos 0 ∷ pos 0 ∷ pos 4 ∷ pos 0 ∷ pos 0 ∷ pos 0 ∷ pos 0 ∷ pos 0 ∷ pos 0 ∷ pos 0 ∷ pos 0 ∷ pos 0 ∷ pos 0 ∷ pos 0 ∷
    pos 0 ∷ negsuc 3 ∷ negsuc 3 ∷ pos 0 ∷ pos 0 ∷ pos 0 ∷ pos 0 ∷ pos 0 ∷ pos 0 ∷ pos 4 ∷ pos 0 ∷ pos 0 ∷ pos 0 ∷ pos 0 ∷ pos 0 ∷ pos 0 ∷ pos 0 ∷ pos 0 ∷ pos 0 ∷ pos 0 ∷
    pos 0 ∷ pos 0 ∷ negsuc 3 ∷ negsuc 3 ∷ pos 0 ∷ pos 0 ∷ pos 0 ∷ pos 0 ∷ pos 0 ∷ pos 0 ∷ pos 4 ∷ pos 0 ∷ pos 0 ∷ pos 0 ∷ pos 0 ∷ pos 0 ∷ pos 0 ∷ pos 0 ∷ pos 0 ∷ pos 0 ∷
    negsuc 3 ∷ pos 0 ∷ pos 0 ∷ negsuc 3 ∷ pos 0 ∷ pos 0 ∷ pos 0 ∷ pos 0 ∷ pos 0 ∷ pos 0 ∷ pos 0 ∷ pos 4 ∷ pos 0 ∷ pos 0 ∷ pos 0 ∷ pos 0 ∷ pos 0 ∷ pos 0 ∷ pos 0 ∷ pos 0 ∷
    negsuc 3 ∷ pos 0 ∷ pos 0 ∷ pos 0 ∷ negsuc 3 ∷ pos 0 ∷ pos 0 ∷ pos 0 ∷ pos 0 ∷ pos 0 ∷ pos 0 ∷ pos 0 ∷ pos 4 ∷ pos 0 ∷ pos 0 ∷ pos 0 ∷ pos 0 ∷ pos 0 ∷ pos 0 ∷ pos 0 ∷
    pos 0 ∷ negsuc 3 ∷ pos 0 ∷ pos 0 ∷ pos 0 ∷ negsuc 3 ∷ pos 0 ∷ pos 0 ∷ pos 0 ∷ pos 0 ∷ pos 0 ∷ pos 0 ∷ pos 0 ∷ pos 4 ∷ pos 0 ∷ pos 0 ∷ pos 0 ∷ pos 0 ∷ pos 0 ∷ pos 0 ∷
    pos 0 ∷ pos 0 ∷ negsuc 3 ∷ pos 0 ∷ pos 0 ∷ pos 0 ∷ negsuc 3 ∷ pos 0 ∷ pos 0 ∷ pos 0 ∷ pos 0 ∷ pos 0 ∷ pos 0 ∷ pos 0 ∷ pos 4 ∷ pos 0 ∷ pos 0 ∷ pos 0 ∷ pos 0 ∷ pos 0 ∷
    pos 0 ∷ pos 0 ∷ pos 0 ∷ negsuc 3 ∷ pos 0 ∷ pos 0 ∷ pos 0 ∷ negsuc 3 ∷ pos 0 ∷ pos 0 ∷ pos 0 ∷ pos 0 ∷ pos 0 ∷ pos 0 ∷ pos 0 ∷ pos 4 ∷ pos 0 ∷ pos 0 ∷ pos 0 ∷ pos 0 ∷
    pos 0 ∷ pos 0 ∷ pos 0 ∷ pos 0 ∷ negsuc 3 ∷ negsuc 3 ∷ pos 0 ∷ pos 0 ∷ pos 0 ∷ pos 0 ∷ pos 0 ∷ pos 0 ∷ pos 0 ∷ pos 0 ∷ pos 0 ∷ pos 0 ∷ pos 4 ∷ pos 0 ∷ pos 0 ∷ pos 0 ∷
    pos 0 ∷ pos 0 ∷ pos 0 ∷ pos 0 ∷ pos 0 ∷ negsuc 3 ∷ negsuc 3 ∷ pos 0 ∷ pos 0 ∷ pos 0 ∷ pos 0 ∷ pos 0 ∷ pos 0 ∷ pos 0 ∷ pos 0 ∷ pos 0 ∷ pos 0 ∷ pos 4 ∷ pos 0 ∷ pos 0 ∷
    pos 0 ∷ pos 0 ∷ pos 0 ∷ pos 0 ∷ pos 0 ∷ pos 0 ∷ negsuc 3 ∷ negsuc 3 ∷ pos 0 ∷ pos 0 ∷ pos 0 ∷ pos 0 ∷ pos 0 ∷ pos 0 ∷ pos 0 ∷ pos 0 ∷ pos 0 ∷ pos 0 ∷ pos 4 ∷ pos 0 ∷
    pos 0 ∷ pos 0 ∷ pos 0 ∷ pos 0 ∷ negsuc 3 ∷ pos 0 ∷ pos 0 ∷ negsuc 3 ∷ pos 0 ∷ pos 0 ∷ pos 0 ∷ pos 0 ∷ pos 0 ∷ pos 0 ∷ pos 0 ∷ pos 0 ∷ pos 0 ∷ pos 0 ∷ pos 0 ∷ pos 4 ∷
    negsuc 5 ∷ negsuc 5 ∷ negsuc 5 ∷ negsuc 5 ∷ pos 0 ∷ pos 0 ∷ pos 0 ∷ pos 0 ∷ pos 2 ∷ pos 2 ∷ pos 2 ∷ pos 2 ∷ pos 0 ∷ pos 0 ∷ pos 0 ∷ pos 0 ∷ pos 0 ∷ pos 0 ∷ pos 0 ∷ pos 0 ∷
    negsuc 5 ∷ negsuc 5 ∷ pos 0 ∷ pos 0 ∷ negsuc 5 ∷ negsuc 5 ∷ pos 0 ∷ pos 0 ∷ pos 2 ∷ pos 0 ∷ pos 0 ∷ pos 0 ∷ pos 2 ∷ pos 2 ∷ pos 0 ∷ pos 0 ∷ pos 2 ∷ pos 0 ∷ pos 0 ∷ pos 0 ∷
    pos 0 ∷ negsuc 5 ∷ negsuc 5 ∷ pos 0 ∷ pos 0 ∷ negsuc 5 ∷ negsuc 5 ∷ pos 0 ∷ pos 0 ∷ pos 2 ∷ pos 0 ∷ pos 0 ∷ pos 0 ∷ pos 2 ∷ pos 2 ∷ pos 0 ∷ pos 0 ∷ pos 2 ∷ pos 0 ∷ pos 0 ∷
    pos 0 ∷ pos 0 ∷ negsuc 5 ∷ negsuc 5 ∷ pos 0 ∷ pos 0 ∷ negsuc 5 ∷ negsuc 5 ∷ pos 0 ∷ pos 0 ∷ pos 2 ∷ pos 0 ∷ pos 0 ∷ pos 0 ∷ pos 2 ∷ pos 2 ∷ pos 0 ∷ pos 0 ∷ pos 2 ∷ pos 0 ∷
    negsuc 5 ∷ pos 0 ∷ pos 0 ∷ negsuc 5 ∷ negsuc 5 ∷ pos 0 ∷ pos 0 ∷ negsuc 5 ∷ pos 0 ∷ pos 0 ∷ pos 0 ∷ pos 2 ∷ pos 2 ∷ pos 0 ∷ pos 0 ∷ pos 2 ∷ pos 0 ∷ pos 0 ∷ pos 0 ∷ pos 2 ∷
    pos 0 ∷ pos 0 ∷ pos 0 ∷ pos 0 ∷ negsuc 5 ∷ negsuc 5 ∷ negsuc 5 ∷ negsuc 5 ∷ pos 0 ∷ pos 0 ∷ pos 0 ∷ pos 0 ∷ pos 0 ∷ pos 0 ∷ pos 0 ∷ pos 0 ∷ pos 2 ∷ pos 2 ∷ pos 2 ∷ pos 2 ∷
    negsuc 4 ∷ negsuc 4 ∷ negsuc 4 ∷ negsuc 4 ∷ negsuc 4 ∷ negsuc 4 ∷ negsuc 4 ∷ negsuc 4 ∷ pos 1 ∷ pos 1 ∷ pos 1 ∷ pos 1 ∷ pos 1 ∷ pos 1 ∷ pos 1 ∷ pos 1 ∷ pos 1 ∷ pos 1 ∷ pos 1 ∷ pos 1 ∷ []

abbrev pub row : ℕ → List ℤ
row n = take 20 (drop (20 * n) table)

-- a row of the table against the volumes
abbrev pub dot : {A : Type 0} → Arithmetic A → List ℤ → List A → A
dot o [] vs = o.whole (pos 0)
dot o (c ∷ cs) [] = o.whole (pos 0)
dot o (c ∷ cs) (v ∷ vs) = o.plus (o.times (o.whole c) v) (dot o cs vs)

-- "All are kept times 8": the 27 coefficients of the eight points.
unfoldable pub coefficients : List ℤ → List ℤ
coefficients xs = let vs = volumes integers (nodes_of xs) in tabulate (λ n. dot integers (row n) vs) 0 27
