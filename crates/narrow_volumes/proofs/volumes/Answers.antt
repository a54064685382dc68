-- Twenty tetrahedra, one by one.
use mathlib.Core.List.{[], ◌∷◌}
use Rattle.foundation.specs.Held.{read_back}
use Rattle.narrow_volumes.proofs.volumes.Goals as goal

pub returns : goal.returns
returns c = λ i.
    read_back c.at_corner.type_inv c.at_corner.ensures i ∷
    read_back c.at_corner-2.type_inv c.at_corner-2.ensures i ∷
    read_back c.at_corner-3.type_inv c.at_corner-3.ensures i ∷
    read_back c.at_corner-4.type_inv c.at_corner-4.ensures i ∷
    read_back c.at_corner-5.type_inv c.at_corner-5.ensures i ∷
    read_back c.at_corner-6.type_inv c.at_corner-6.ensures i ∷
    read_back c.at_corner-7.type_inv c.at_corner-7.ensures i ∷
    read_back c.at_corner-8.type_inv c.at_corner-8.ensures i ∷
    read_back c.at_edge.type_inv c.at_edge.ensures i ∷
    read_back c.at_edge-2.type_inv c.at_edge-2.ensures i ∷
    read_back c.at_edge-3.type_inv c.at_edge-3.ensures i ∷
    read_back c.at_edge-4.type_inv c.at_edge-4.ensures i ∷
    read_back c.at_edge-5.type_inv c.at_edge-5.ensures i ∷
    read_back c.at_edge-6.type_inv c.at_edge-6.ensures i ∷
    read_back c.at_edge-7.type_inv c.at_edge-7.ensures i ∷
    read_back c.at_edge-8.type_inv c.at_edge-8.ensures i ∷
    read_back c.at_edge-9.type_inv c.at_edge-9.ensures i ∷
    read_back c.at_edge-10.type_inv c.at_edge-10.ensures i ∷
    read_back c.at_edge-11.type_inv c.at_edge-11.ensures i ∷
    read_back c.at_edge-12.type_inv c.at_edge-12.ensures i ∷
    []
