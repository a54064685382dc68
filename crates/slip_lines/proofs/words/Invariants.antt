-- What holds when a turn of the loop of `words` begins: the words from there on are left to be written.
use Rattle.std.proofs.Common.{map, drop}
use Rattle.bytes_output.specs.Progress.{Progress}
use Rattle.slip_format.specs.Decimal.{signed_decimal}
use Rattle.slip_lines.specs.Spaced.{spaced}
use Rattle.slip_lines.proofs.words.Given as goal

abbrev pub invariant-loop-w : goal.invariant-loop-w
invariant-loop-w l = Progress l.initial.out (spaced (map signed_decimal l.ws)) (spaced (map signed_decimal (drop l.w-index l.ws))) l.out
