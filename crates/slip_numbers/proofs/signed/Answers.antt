-- `signed` meets its contract: by the number's sign. Assumes nothing.
use Rattle.std.proofs.Common.{sym, subst, [], ◌∷◌, ◌<◌, ◌≡◌, ◌∙◌, ap, nat_abs, true, false, true≢false, ℤ, pos, refl, arith, w64}
use lib.Dec.{T, ltb→lt}
use lib.IntN.{negsuc}
use lib.Signed.{lt_z}
use mir.ValLaws.{to_z-of_z}
use Rattle.bytes_output.specs.declared.Output.{Output}
use Rattle.bytes_output.specs.Behind.{Laid, laid_as}
use Rattle.bytes_output.specs.Progress.{last, laid_none, laid_more, laid_last}
use Rattle.slip_format.specs.Decimal.{decimal, signed_decimal}
use Rattle.slip_numbers.proofs.signed.Goals as goal
use Rattle.slip_numbers.proofs.signed.Goals.{then-w-lt0, else-w-lt0}

below : (w : ℤ) → lt_z w (pos 0) ≡ true → signed_decimal w ≡ 45 ∷ decimal (nat_abs w)
below (pos n) e = absurd (let h : n < 0 = ltb→lt n 0 (subst T (sym e) tt) in omega arith)
below (negsuc n) e = refl

above : (w : ℤ) → lt_z w (pos 0) ≡ false → signed_decimal w ≡ decimal (nat_abs w)
above (pos n) e = refl
above (negsuc n) e = absurd (true≢false e)

pub returns : goal.returns
returns c =
    let w = c.args.w in
    let before = c.args.out.now in
    let same = to_z-of_z w64 w c.ranges.w in
    let size = c.magnitude.ensures ∙ ap nat_abs same in
    let laid : Laid c.if-w-lt0.out (decimal (nat_abs w)) c.decimal.new.out = laid_as (ap decimal size) c.decimal.ensures in
    elim c.if-w-lt0.branch [
      | then-w-lt0 b ↦
          let text = below w (subst (λ (z : ℤ). lt_z z (pos 0) ≡ true) same b.if-w-lt0.true) in
          let signed : Laid before (45 ∷ []) c.if-w-lt0.out = subst (λ (mid : Output). Laid before (45 ∷ []) mid) (sym b.out-is) b.byte.ensures in
          laid_last (laid_more (laid_none before c.requires) (record { parts = text }) signed) (last refl) laid
      | else-w-lt0 b ↦
          let text = above w (subst (λ (z : ℤ). lt_z z (pos 0) ≡ false) same b.if-w-lt0.false) in
          subst (λ (start : Output). Laid start (signed_decimal w) c.decimal.new.out) b.out-is (laid_as (sym text) laid)
    ]
