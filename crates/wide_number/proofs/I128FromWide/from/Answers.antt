-- `i128::from` of two words meets its contract: their 128 bits stand for their value. Assumes nothing.
use Rattle.std.proofs.Common.{ℕ, ◌+◌, ◌*◌, sym, ap₂, ◌∙◌, arith, to_z, to_z-of_z}
use mir.Syntax.{w128}
use Rattle.wrapping_theory.specs.Words.{value_bits}
use Rattle.wide_number.proofs.I128FromWide.from.Goals as goal

pub returns : goal.returns
returns c = to_z-of_z {w = w128} (record { sfits = c.cast_signed.type_inv }) ∙ c.cast_signed.ensures
    ∙ ap₂ (λ (h l : ℕ). to_z w128 (h * 18446744073709551616 + l)) c.from.ensures c.from-2.ensures
    ∙ sym (value_bits c.args.x.low c.args.x.high (record { low_word_fits = omega arith; high_word_fits = omega arith }))
