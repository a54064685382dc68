-- What holds when a turn of a loop of `put_words` begins: the first k numbers are laid over the lent words.
use Rattle.std.proofs.Common.{◌≡◌, map, drop}
use lib.Seq.{paste}
use Rattle.lot_format.specs.Numbers.{unsigneds}
use Rattle.lot_entry_hand_out.proofs.put_words.Given as goal

abbrev pub invariant-loop-k : goal.invariant-loop-k
invariant-loop-k g l = l.words ≡ paste l.initial.words l.n (map g.T.Word.held (unsigneds g.row.N (drop l.at l.file))) l.k
