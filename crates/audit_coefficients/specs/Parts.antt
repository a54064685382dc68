-- Modulo 2^w a part of a sum may itself be taken modulo 2^w.
use Rattle.std.specs.Prelude.{◌≡◌, ℤ, ◌+ℤ◌}
use Rattle.std.specs.Int.{Width}
use Rattle.definitions.specs.TwoWords.{wrapped}
use Rattle.wrapping_theory.specs.Congruence.{itself, chained, sum}
use Rattle.wrapping_theory.specs.Wrapping.{wrapped_congruent, wrapped_fits, is_wrapped}

module _ (w : Width) (a b : ℤ) where
  pub wrapped_left : wrapped w (wrapped w a +ℤ b) ≡ wrapped w (a +ℤ b)
  wrapped_left = is_wrapped w (wrapped_fits w (wrapped w a +ℤ b)) (chained (wrapped_congruent w (wrapped w a +ℤ b)) (sum (wrapped_congruent w a) (itself b)))

  pub wrapped_right : wrapped w (a +ℤ wrapped w b) ≡ wrapped w (a +ℤ b)
  wrapped_right = is_wrapped w (wrapped_fits w (a +ℤ wrapped w b)) (chained (wrapped_congruent w (a +ℤ wrapped w b)) (sum (itself a) (wrapped_congruent w b)))
