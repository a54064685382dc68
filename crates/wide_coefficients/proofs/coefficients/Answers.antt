-- The rows against the volumes' digits, which are within the rows' limits, and their results joined.
use mathlib.Core.Path.{◌≡◌, sym, ◌∙◌, ap, subst}
use mathlib.Core.List.{List, map}
use lib.IntN.{ℤ}
use Rattle.coefficient_rows.specs.Limits.{WithinLimits}
use Rattle.definitions.specs.Jacobian.{nodes_of}
use Rattle.wide_volumes.specs.Digits.{upper, lower, digits, pairs, uppers_are, lowers_are}
use Rattle.wide_volumes.specs.Sizes.{upper_digits_small, lower_digits_small}
use Rattle.wide_coefficients.specs.Joined.{coefficients_joined}
use Rattle.wide_coefficients.proofs.coefficients.Goals as goal

-- what the two halves of the pairs are
module _ (xs : List ℤ) {ds : List (ℤ × ℤ)} (p : ds ≡ pairs (nodes_of xs)) {ws : List ℤ} where
  upper_half : ws ≡ map (λ (d : ℤ × ℤ). d.0) ds → ws ≡ digits upper (nodes_of xs)
  upper_half e = e ∙ ap (map (λ (d : ℤ × ℤ). d.0)) p ∙ sym (uppers_are (nodes_of xs))

  lower_half : ws ≡ map (λ (d : ℤ × ℤ). d.1) ds → ws ≡ digits lower (nodes_of xs)
  lower_half e = e ∙ ap (map (λ (d : ℤ × ℤ). d.1)) p ∙ sym (lowers_are (nodes_of xs))

pub rows-uppers-requires : goal.rows-uppers-requires
rows-uppers-requires c = subst WithinLimits (sym (upper_half c.args.p.now c.digits.ensures c.split.ensures.upper)) (record { small = upper_digits_small c.requires })

pub rows-lowers-requires : goal.rows-lowers-requires
rows-lowers-requires c = subst WithinLimits (sym (lower_half c.args.p.now c.digits.ensures c.split.ensures.lower)) (record { small = lower_digits_small c.requires })

pub returns : goal.returns
returns c = let p = c.digits.ensures in c.put_joined.ensures
    ∙ coefficients_joined c.args.p.now (upper_half c.args.p.now p c.split.ensures.upper) (lower_half c.args.p.now p c.split.ensures.lower) c.rows-uppers.ensures c.rows-lowers.ensures
