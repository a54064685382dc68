-- `put_words` meets its contract. The loop's invariant: the first `k` numbers are laid over the lent words. Assumes nothing.
use Rattle.std.proofs.Common.{◌≡◌, sym, ◌∙◌, ap, arith, map, ℕ, List, ◌+◌, ◌*◌, ◌<◌, length, take, drop, drop-drop}
use lib.ListN.{get_or-map, length-map}
use lib.Seq.{paste, paste-zero}
use Rattle.foundation.specs.Laid.{paste_next, paste_all}
use Rattle.lot_format.specs.Numbers.{number, unsigneds}
use Rattle.lot_entry_hand_out.proofs.Laws.{get_d_unsigneds, length_unsigneds}
use Rattle.lot_entry_hand_out.proofs.put_words.Goals as goal

pub loop-k-init : goal.loop-k-init
loop-k-init g c = paste-zero c.args.words.now c.args.n (map g.T.Word.held (unsigneds g.row.N (drop c.args.at c.args.file.now)))

pub loop-k-preserved : goal.loop-k-preserved
loop-k-preserved g c =
    let k = c.loop-k.k in
    let held = g.T.Word.held in
    let file = c.args.file.now in
    let bits = unsigneds g.row.N (drop c.args.at file) in
    let long : length (map held bits) ≡ g.row.N = length-map bits held ∙ length_unsigneds g.row.N (drop c.args.at file) in
    let far : c.args.n + k < length c.args.words.now = omega arith in
    let near : k < length (map held bits) = omega (arith, long) in
    let here = ap (λ (l : List ℕ). number (take 4 l)) (sym (drop-drop (4 * k) c.args.at file)) ∙ sym (get_d_unsigneds g.row.N k (drop c.args.at file) (omega arith)) in
    let word = c.word_at.ensures ∙ ap held here ∙ sym (get_or-map held bits k 0) in
    paste_next c.args.words.now c.loop-k.words (map held bits) c.args.n k c.word_at.result (held 0) far near c.loop-k.invariant word

pub returns : goal.returns
returns g c =
    let bits = unsigneds g.row.N (drop c.args.at c.args.file.now) in
    let words = map g.T.Word.held bits in
    let long : length words ≡ g.row.N = length-map bits g.T.Word.held ∙ length_unsigneds g.row.N (drop c.args.at c.args.file.now) in
    let done : c.loop-k.k ≡ length words = omega (arith, long) in
    c.loop-k.invariant ∙ ap (paste c.args.words.now c.args.n words) done ∙ paste_all c.args.words.now words c.args.n
