-- Every word of a report is a signed number of 64 bits.
use Rattle.std.specs.Prelude.{◌≡◌, refl, List, ℕ, ◌+◌, ◌*◌, ◌/◌, ◌%◌, ◌^◌, ◌<◌, ◌≤◌, get_or, length, take, drop, ℤ, pos}
use Rattle.std.proofs.Common.{sym, ◌∙◌, ap, subst, le_trans, arith, take-append-drop, to_z}
use Rattle.std.proofs.Math.Bool.{not}
use Rattle.std.proofs.Math.Option.{Option, none, some}
use Rattle.std.proofs.Math.Nat.{pow-le-pow_right}
use Rattle.std.specs.Int.{w64}
use mir.ValLaws.{to_z-Fits}
use Rattle.foundation.specs.Lists.{All, all_left, all_right, all_get_d_default, all_concat, all_tabulate}
use Rattle.definitions.specs.Limits.{base}
use Rattle.definitions.specs.TwoWords.{low_word, high_word}
use Rattle.definitions.specs.Verdict.{Finding, Verdict, valid, invalid, undecided, verdict, opened}
use Rattle.definitions.specs.Record.{Fault, words, fault_words, verdict_words, record_of}
use Rattle.definitions.specs.Mesh.{missing_index, named_twice, points_of, out_of_range, usable, fault_of, element_record, records, report}
use Rattle.wrapping_theory.specs.Words.{are_words}
use Rattle.verdict_theory.specs.Meaning.{Means, means, invalid_point, undecided_coefficient}
use Rattle.verdict_theory.specs.Opened.{most, opened_most}
use Rattle.verdict_theory.specs.Elements.{element_fault, element_points}
use Rattle.search_theory.specs.Levels.{most_less}
use Rattle.mesh_points.specs.Search.{first_below}
use Rattle.mesh_indices.specs.Pairs.{twice_below}
use Rattle.mesh_indices.specs.Missing.{missing_below}
use Rattle.mesh_elements.specs.Elements.{fault_missing, fault_twice, fault_outside, fault_none}
use Rattle.slip_format.proofs.Room.{Held}

-- the words of any value
value_held_law : (z : ℤ) → Held (to_z w64 (low_word z)) × Held (to_z w64 (high_word z))
value_held_law z = let w = are_words z in ((to_z-Fits w64 _ (record { fits = w.low_word_fits })).sfits, (to_z-Fits w64 _ (record { fits = w.high_word_fits })).sfits)

grid_small : (m : ℕ) → m ≤ base.depth → 2 ^ m ≤ 2 ^ base.depth
grid_small m h = pow-le-pow_right {n = 2} (omega arith) h

-- ---- the record of eight points
module _ (xs : List ℤ) where
  words_held : (D n : ℕ) (v : Verdict) → D ≤ base.depth → n ≤ most base.depth → Means xs D v → All Held (verdict_words v n)
  words_held D n (valid l) h k m =
      let low = m.within in
      (omega arith, (omega arith, (omega arith, (omega arith, (omega arith, (omega arith, (omega arith, (omega arith, (omega arith, tt)))))))))
  words_held D n (invalid l f) h k m =
      let low = m.within in
      let p = invalid_point xs D l f m in
      let g = grid_small l (omega arith) in
      let value = value_held_law f.value in
      (omega arith, (omega arith, (omega (arith, p.on_grid.0), (omega (arith, p.on_grid.1), (omega (arith, p.on_grid.2), (omega (arith, p.number), (value.0, (value.1, (omega arith, tt)))))))))
  words_held D n (undecided l f) h k m =
      let level = m.level in
      let c = undecided_coefficient xs D l f m in
      let cell = c.of_level in
      let g = grid_small D h in
      let a = ap (λ (x : Finding). x.a) c.is in
      let b = ap (λ (x : Finding). x.b) c.is in
      let d = ap (λ (x : Finding). x.c) c.is in
      let number = ap (λ (x : Finding). x.number) c.is in
      let value = value_held_law f.value in
      (omega arith, (omega arith, (omega (arith, cell.a_below), (omega (arith, cell.b_below), (omega (arith, cell.c_below), (omega (arith, c.number), (value.0, (value.1, (omega arith, tt)))))))))

  pub record_held : (D : ℕ) → D ≤ base.depth → All Held (record_of xs D)
  unfolding record_of
  record_held D h = words_held D (opened xs D) (verdict xs D) h (le_trans (opened_most xs D) (most_less D h)) (means xs D)

-- ---- the record of an element whose indices are numbers of 32 bits
abbrev Index : ℕ → Type 0
Index x = x < 2 ^ 32

module _ (coordinates : List ℤ) (ix : List ℕ) (small : All Index ix) (D : ℕ) (shallow : D ≤ base.depth) where
  outside_below : (k : ℕ) → out_of_range base (points_of coordinates ix) ≡ some k → k < 24
  unfolding out_of_range
  outside_below k e = first_below (λ j. not (usable base (get_or (points_of coordinates ix) j (pos 0)))) 0 24 k e

  -- the words of a refused element: its number and two more
  refused_held : (f : Fault) (n p q : ℕ) → fault_of base coordinates ix ≡ some f → fault_words f ≡ words n p q 0 0 0 (pos 0) 0 → n < 8 → p < 9 → q < 2 ^ 32 → All Held (element_record base coordinates ix D)
  refused_held f n p q e w k l m = subst (All Held) (sym (element_fault base coordinates ix D f e ∙ w))
      (omega arith, (omega arith, (omega arith, (omega arith, (omega arith, (omega arith, (omega arith, (omega arith, (omega arith, tt)))))))))

  element_held : All Held (element_record base coordinates ix D)
  element_held = go (missing_index (length coordinates / 3) ix) refl (named_twice ix) refl (out_of_range base (points_of coordinates ix)) refl
    where
      go : (m : Option ℕ) → missing_index (length coordinates / 3) ix ≡ m → (t : Option ℕ) → named_twice ix ≡ t → (o : Option ℕ) → out_of_range base (points_of coordinates ix) ≡ o
          → All Held (element_record base coordinates ix D)
      go (some k) e t g o f =
          let below = missing_below (length coordinates / 3) ix k e in
          refused_held _ 5 (k + 1) (get_or ix k 0) (fault_missing base coordinates ix k e) refl (omega arith) (omega arith) (all_get_d_default Index ix 0 k (omega arith) small)
      go none e (some k) g o f =
          let below = twice_below ix k g in
          refused_held _ 7 (k / 8 + 1) (k % 8 + 1) (fault_twice base coordinates ix k e g) refl (omega arith) (omega arith) (omega arith)
      go none e none g (some k) f =
          let below = outside_below k f in
          refused_held _ 6 (k / 3 + 1) (k % 3 + 1) (fault_outside base coordinates ix k e g f) refl (omega arith) (omega arith) (omega arith)
      go none e none g none f = subst (All Held) (sym (element_points base coordinates ix D (fault_none base coordinates ix e g f))) (record_held (points_of coordinates ix) D shallow)

-- ---- the report
part : (n m : ℕ) (ix : List ℕ) → All Index ix → All Index (take n (drop m ix))
part n m ix h =
    let rest = all_right Index (take m ix) (drop m ix) (rw take-append-drop h) in
    all_left Index (take n (drop m ix)) (drop n (drop m ix)) (rw take-append-drop rest)

pub report_held : (coordinates : List ℤ) (indices : List ℕ) → All (λ x. x < 2 ^ 32) indices → (D : ℕ) → D ≤ base.depth → All Held (report base coordinates indices D)
unfolding report records
report_held coordinates indices h D shallow = all_concat Held (λ r. r) (records base coordinates indices D)
    (all_tabulate (λ r. All Held r) (λ e. element_record base coordinates (take 8 (drop (8 * e) indices)) D) 0 (length indices / 8)
    (λ e _ _. element_held coordinates (take 8 (drop (8 * e) indices)) (part 8 (8 * e) indices h) D shallow))
