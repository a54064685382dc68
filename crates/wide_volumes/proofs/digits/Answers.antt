-- Twenty tetrahedra, one by one.
use mathlib.Core.List.{[], ◌∷◌}
use Rattle.wide_volumes.specs.Digits.{pairs}
use Rattle.wide_volumes.proofs.digits.Goals as goal

pub returns : goal.returns
unfolding pairs
returns c = λ i.
    (c.at_corner.ensures.upper i, c.at_corner.ensures.lower i) ∷
    (c.at_corner-2.ensures.upper i, c.at_corner-2.ensures.lower i) ∷
    (c.at_corner-3.ensures.upper i, c.at_corner-3.ensures.lower i) ∷
    (c.at_corner-4.ensures.upper i, c.at_corner-4.ensures.lower i) ∷
    (c.at_corner-5.ensures.upper i, c.at_corner-5.ensures.lower i) ∷
    (c.at_corner-6.ensures.upper i, c.at_corner-6.ensures.lower i) ∷
    (c.at_corner-7.ensures.upper i, c.at_corner-7.ensures.lower i) ∷
    (c.at_corner-8.ensures.upper i, c.at_corner-8.ensures.lower i) ∷
    (c.at_edge.ensures.upper i, c.at_edge.ensures.lower i) ∷
    (c.at_edge-2.ensures.upper i, c.at_edge-2.ensures.lower i) ∷
    (c.at_edge-3.ensures.upper i, c.at_edge-3.ensures.lower i) ∷
    (c.at_edge-4.ensures.upper i, c.at_edge-4.ensures.lower i) ∷
    (c.at_edge-5.ensures.upper i, c.at_edge-5.ensures.lower i) ∷
    (c.at_edge-6.ensures.upper i, c.at_edge-6.ensures.lower i) ∷
    (c.at_edge-7.ensures.upper i, c.at_edge-7.ensures.lower i) ∷
    (c.at_edge-8.ensures.upper i, c.at_edge-8.ensures.lower i) ∷
    (c.at_edge-9.ensures.upper i, c.at_edge-9.ensures.lower i) ∷
    (c.at_edge-10.ensures.upper i, c.at_edge-10.ensures.lower i) ∷
    (c.at_edge-11.ensures.upper i, c.at_edge-11.ensures.lower i) ∷
    (c.at_edge-12.ensures.upper i, c.at_edge-12.ensures.lower i) ∷
    []
