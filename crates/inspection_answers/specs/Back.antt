-- No two answers stand for the same: what an answer stands for leads back to it.
use Rattle.std.specs.Prelude.{◌≡◌, refl, ℤ, Result, Ok, Err}
use Rattle.std.proofs.Math.Path.{sym}
use Rattle.std.proofs.Common.{◌∙◌, ap}
use Rattle.definitions.specs.Mesh.{Counts, MeshRefusal, depth_too_great, bad_coordinates, bad_indices, bad_space, Inspection, mesh_accepted, mesh_refused, Bounds, bounds, too_deep, out_of_limits}
use Rattle.definitions.specs.TwoWords.{low_word, high_word}
use Rattle.wrapping_theory.specs.Words.{AreWords, low_word_is, high_word_is}
use Rattle.wide_number.specs.declared.Wide.{Wide}
use Rattle.inspection_counts.specs.declared.Counts.{Counts as HeldCounts}
use Rattle.inspection_answers.specs.declared.Refusal.{Refusal}
use Rattle.inspection_answers.specs.declared.Refusal.TheVariants.{DepthTooGreat, BadCoordinates, BadIndices, BadSpace}
use Rattle.inspection_answers.specs.declared.Bounds.{Bounds as HeldBounds}
use Rattle.inspection_answers.specs.declared.BoundsRefusal.{BoundsRefusal}
use Rattle.inspection_answers.specs.declared.BoundsRefusal.TheVariants.{TooDeep, OutOfRange}
use Rattle.inspection_answers.specs.Meaning.{inspection_held, bounds_held}

abbrev counts_back : Counts → HeldCounts
counts_back n = record { valid = n.valid; invalid = n.invalid; undecided = n.undecided; refused = n.refused }

abbrev refusal_back : MeshRefusal → Refusal
refusal_back depth_too_great = DepthTooGreat
refusal_back bad_coordinates = BadCoordinates
refusal_back bad_indices = BadIndices
refusal_back bad_space = BadSpace

abbrev inspection_back : Inspection → Result HeldCounts Refusal
inspection_back (mesh_accepted n) = Ok (counts_back n)
inspection_back (mesh_refused r) = Err (refusal_back r)

inspection_back_law : (x : Result HeldCounts Refusal) → inspection_back (inspection_held x) ≡ x
inspection_back_law (Ok n) = refl
inspection_back_law (Err DepthTooGreat) = refl
inspection_back_law (Err BadCoordinates) = refl
inspection_back_law (Err BadIndices) = refl
inspection_back_law (Err BadSpace) = refl

pub inspection_same : (x y : Result HeldCounts Refusal) → inspection_held x ≡ inspection_held y → x ≡ y
inspection_same x y e = sym (inspection_back_law x) ∙ ap inspection_back e ∙ inspection_back_law y

-- ---- bounds: the words of a number
abbrev wide_back : ℤ → Wide
wide_back z = record { low = low_word z; high = high_word z }

unfoldable pub bounds_back : Bounds → Result HeldBounds BoundsRefusal
bounds_back (bounds l h) = Ok (record { low = wide_back l; high = wide_back h })
bounds_back too_deep = Err TooDeep
bounds_back out_of_limits = Err OutOfRange

module _ {b : Result HeldBounds BoundsRefusal} where
  pub both_back : (l h : Wide) → AreWords l.low l.high → AreWords h.low h.high → b ≡ Ok (record { low = l; high = h }) → ◌≡◌ {A = Result HeldBounds BoundsRefusal} (Ok (record { low = l; high = h })) (bounds_back (bounds_held b))
  unfolding bounds_back
  both_back l h p q e = sym (ap (λ (x : Result HeldBounds BoundsRefusal). bounds_back (bounds_held x)) e
      ∙ (λ i. Ok (record { low = record { low = low_word_is l.low l.high p i; high = high_word_is l.low l.high p i }; high = record { low = low_word_is h.low h.high q i; high = high_word_is h.low h.high q i } })))

  pub deep_back : b ≡ Err TooDeep → ◌≡◌ {A = Result HeldBounds BoundsRefusal} (Err TooDeep) (bounds_back (bounds_held b))
  unfolding bounds_back
  deep_back e = sym (ap (λ (x : Result HeldBounds BoundsRefusal). bounds_back (bounds_held x)) e)

  pub outside_back : b ≡ Err OutOfRange → ◌≡◌ {A = Result HeldBounds BoundsRefusal} (Err OutOfRange) (bounds_back (bounds_held b))
  unfolding bounds_back
  outside_back e = sym (ap (λ (x : Result HeldBounds BoundsRefusal). bounds_back (bounds_held x)) e)

  pub refused_back : {r : BoundsRefusal} → b ≡ Err r → ◌≡◌ {A = Result HeldBounds BoundsRefusal} (Err r) (bounds_back (bounds_held b))
  refused_back {r} e = go r e
    where
      go : (r : BoundsRefusal) → b ≡ Err r → ◌≡◌ {A = Result HeldBounds BoundsRefusal} (Err r) (bounds_back (bounds_held b))
      go TooDeep e = deep_back e
      go OutOfRange e = outside_back e
