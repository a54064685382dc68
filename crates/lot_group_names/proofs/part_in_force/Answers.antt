-- `part_in_force` meets its contract. The loop's invariant: how far the search has come (`Found`). Assumes nothing.
use Rattle.std.proofs.Common.{◌≡◌, arith, ◌≤◌, min, length}
use Rattle.std.proofs.lemmas.Slice.Zip.{zip_end}
use Rattle.lot_group_names.proofs.Names.{found_name, found_place}
use Rattle.lot_group_names.proofs.part_in_force.Goals as goal

pub returns : goal.returns
returns c =
    let g = c.args.groups in
    let end : length c.loop-length.yielded ≡ min (length g.lengths.now) (length g.offsets.now) = zip_end g.lengths.now g.offsets.now _ _ _ c.next.new.self _ (cc) (cc) c.loop-length.yielded_by c.in-None.is c.next.ensures.steps in
    let done : min (length g.lengths.now) (length g.offsets.now) ≤ length c.loop-length.yielded = omega (arith, end) in
    let f = c.loop-length.invariant in
    record { len_in_bounds = f.whole; names_value = found_name _ _ _ _ f done; start_value = found_place _ _ _ _ f done }
