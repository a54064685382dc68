-- A turn of the loop over a row's list: the entry's product fits, and so does the sum with it.
use mathlib.Core.Path.{◌≡◌, refl, sym, ◌∙◌, ap, subst}
use mathlib.Core.List.{List, [], ◌∷◌}
use Prim.Native.Nat.{ℕ, ◌+◌, ◌*◌, ◌<◌, ◌≤◌}
use native.Mathlib.Nat.{le_trans, le_refl, le_of_eq, mul-le-mul}
use native.Mathlib.Omega.{arith}
use lib.Dec.{lit≤}
use lib.ListN.{length, drop, get_or}
use lib.IntN.{ℤ, pos, nat_abs, ◌+ℤ◌, ◌*ℤ◌}
use mir.Syntax.{w64}
use mir.Val.{SFits, to_z, of_z}
use Rattle.std.proofs.Math.IntN.{+ℤ_assoc, +ℤ_idr}
use Rattle.foundation.specs.Lists.{All, all_get_d, drop_next}
use Rattle.foundation.specs.Magnitude.{magnitude_mul}
use Rattle.foundation.specs.Polynomial.{integers}
use Rattle.foundation.specs.Words.{signed_limit, split_cases}
use Rattle.foundation.specs.Held.{Rep, leaf, made, made_fits, add_under, add_fits_under}
use Rattle.definitions.specs.Coefficients.{row, dot}
use Rattle.coefficient_table.specs.Sparse.{Entry, sparse_row}
use Rattle.coefficient_table.specs.SparseSum.{sparse_dot, sparse_dot_law}
use Rattle.coefficient_table.specs.SparseRuns.{IsTerm, row_terms}
use Rattle.coefficient_rows.specs.Limits.{edge_volume_limit, limit_at, WithinLimits, reach, row_reach}
use Rattle.coefficient_rows.specs.Sums.{Summed}

module _ {es : List Entry} {vs : List ℤ} {n : ℕ} (l : n < 27) (h : WithinLimits vs) (e : es ≡ sparse_row n) where
  module _ {k : ℕ} (more : k < length es) where
    abbrev entry : Entry
    entry = get_or es k (0, pos 0)

    abbrev volume : ℤ
    volume = get_or vs entry.0 (pos 0)

    term : IsTerm entry
    term = all_get_d IsTerm es (0, pos 0) k more (subst (All IsTerm) (sym e) (row_terms n l))

    pub column_inside : entry.0 < 20
    column_inside = term.column_small

    value_held : Rep (of_z w64 entry.1) entry.1 8
    value_held = leaf 8 entry.1 term.value_small tt

    volume_held : Rep (of_z w64 volume) volume edge_volume_limit
    volume_held = leaf edge_volume_limit volume (le_trans (h.small entry.0) (split_cases (λ m. m ≤ edge_volume_limit) (lit≤ tt) (lit≤ tt) 8 entry.0)) tt

    next : drop k es ≡ entry ∷ drop (k + 1) es
    next = drop_next es k (0, pos 0) more

    -- the entry's own part of the row's reach
    abbrev part : ℕ
    part = nat_abs entry.1 * limit_at entry.0

    part_most : nat_abs (entry.1 *ℤ volume) ≤ part
    part_most = le_trans (le_of_eq (magnitude_mul entry.1 volume)) (mul-le-mul (le_refl (nat_abs entry.1)) (h.small entry.0))

    module _ (b : ℕ) (s : Summed vs es k (to_z w64 b)) where
      row_room : reach es < signed_limit
      row_room = subst (λ es. reach es < signed_limit) (sym e) (row_reach n l)

      parts_room : nat_abs (to_z w64 b) + (part + reach (drop (k + 1) es)) ≤ reach es
      parts_room = subst (λ rest. nat_abs (to_z w64 b) + reach rest ≤ reach es) next s.room

      part_fits : part < signed_limit
      part_fits = omega (arith, parts_room, row_room)

      pub product_fits : SFits w64 (to_z w64 (of_z w64 entry.1) *ℤ to_z w64 (of_z w64 volume))
      product_fits = made_fits value_held volume_held ◌*ℤ◌ part part_most part_fits

      abbrev product : ℕ
      product = of_z w64 (to_z w64 (of_z w64 entry.1) *ℤ to_z w64 (of_z w64 volume))

      product_held : Rep product (entry.1 *ℤ volume) part
      product_held = made value_held volume_held ◌*ℤ◌ part part_most part_fits

      sum_held : Rep b (to_z w64 b) (nat_abs (to_z w64 b))
      sum_held = record { value = refl; magnitude = le_refl (nat_abs (to_z w64 b)); room = omega (arith, parts_room, row_room) }

      together : nat_abs (to_z w64 b) + part < signed_limit
      together = omega (arith, parts_room, row_room)

      pub sum_fits : SFits w64 (to_z w64 b +ℤ to_z w64 product)
      sum_fits = add_fits_under sum_held product_held together

      with_entry : Summed vs es (k + 1) (to_z w64 b +ℤ entry.1 *ℤ volume)
      with_entry = let r = add_under sum_held product_held together in record {
        total = +ℤ_assoc (to_z w64 b) (entry.1 *ℤ volume) (sparse_dot vs (drop (k + 1) es)) ∙ ap (λ rest. to_z w64 b +ℤ sparse_dot vs rest) (sym next) ∙ s.total;
        room = omega (arith, parts_room, r.magnitude);
      }

      pub sum_next : Summed vs es (k + 1) (to_z w64 (of_z w64 (to_z w64 b +ℤ to_z w64 product)))
      sum_next = subst (Summed vs es (k + 1)) (sym (add_under sum_held product_held together).value) with_entry

  -- the whole list
  pub row_summed : {k : ℕ} {sum : ℤ} → drop k es ≡ [] → Summed vs es k sum → sum ≡ dot integers (row n) vs
  row_summed {sum = sum} d s = sym (+ℤ_idr sum) ∙ ap (λ rest. sum +ℤ sparse_dot vs rest) (sym d) ∙ s.total ∙ ap (sparse_dot vs) e ∙ sparse_dot_law vs n
