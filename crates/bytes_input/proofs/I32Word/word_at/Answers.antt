-- The signed number of four bytes. Assumes nothing.
use Rattle.std.proofs.Common.{sym, ◌∙◌, ap, w32}
use mir.ValLaws.{to_z-of_z}
use Rattle.lot_format.specs.Numbers.{signed}
use Rattle.bytes_input.proofs.Laws.{signed_to_z}
use Rattle.bytes_input.proofs.I32Word.word_at.Goals as goal

pub returns : goal.returns
returns c = to_z-of_z w32 c.cast_signed.result (record { sfits = c.cast_signed.type_inv }) ∙ c.cast_signed.ensures ∙ sym (signed_to_z c.word_at.result) ∙ ap signed c.word_at.ensures
