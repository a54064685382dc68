-- `element_lines` meets its contract. The loop's invariant: what is left of the lines from element `k` on. Assumes nothing.
use Rattle.std.proofs.Common.{◌≡◌, sym, ◌∙◌, ap, ap₂, subst, List, [], ◌∷◌, ◌++◌, map, ℕ, zero, suc, ◌+◌, ◌*◌, ◌/◌, ◌<◌, get_or, length, take, drop, drop-drop, mul-zero, mul-suc, ℤ, arith}
use Rattle.std.specs.Simd.{first_chunks}
use Rattle.definitions.specs.Limits.{record_words}
use Rattle.lot_format.specs.Format.{Group}
use Rattle.lot_format.specs.Naming.{name_of}
use Rattle.lot_runs.specs.Meaning.{groups_held}
use Rattle.slip_format.specs.Decimal.{decimal, signed_decimal}
use Rattle.slip_format.specs.Slip.{line, element_lines}
use Rattle.bytes_output.specs.declared.Output.{Output}
use Rattle.bytes_output.specs.Progress.{Progress, Next, laid_none, part_fits, laid_more}
use Rattle.slip_parts.proofs.Lines.{lines_from, lines_next, lines_all}
use Rattle.slip_parts.proofs.element_lines.Goals as goal

-- the record of an element among those of a report
record_at : {A : Type 0} (n k i : ℕ) (xs : List A) → i < k → get_or (first_chunks n k xs) i [] ≡ take n (drop (n * i) xs)
record_at n zero i xs h = absurd (omega arith)
record_at n (suc k) zero xs h = ap (λ (j : ℕ). take n (drop j xs)) (sym (mul-zero n))
record_at n (suc k) (suc i) xs h =
    let place : n + n * i ≡ n * suc i = omega (arith, mul-suc n i) in
    record_at n k i (drop n xs) (omega arith) ∙ ap (take n) (drop-drop (n * i) n xs ∙ ap (λ (j : ℕ). drop j xs) place)

-- the line that is written in one turn, and then what is left behind it
module _ (label : List ℕ) (gs : List Group) (report : List ℤ) (k : ℕ) where
  abbrev count : ℕ
  count = length report / record_words

  due : (name : List ℕ) (records : List (List ℤ)) → k < count → name ≡ name_of label gs k → records ≡ first_chunks record_words count report
      → Next (lines_from label gs count report k) (line (decimal (suc k)) (name ∷ map signed_decimal (get_or records k []))) (lines_from label gs count report (k + 1))
  due name records h e f =
      let words = ap (λ (l : List (List ℤ)). get_or l k []) f ∙ record_at record_words count k report h in
      record {
        parts =
            lines_next label gs count report k h
            ∙ ap₂ (λ (l : List ℕ) (ws : List ℤ). line (decimal (suc k)) (l ∷ map signed_decimal ws) ++ lines_from label gs count report (k + 1)) (sym e) (sym words);
      }

pub loop-k-init : goal.loop-k-init
loop-k-init c =
    let gs = groups_held c.args.groups in
    let count = length c.args.report.now / record_words in
    subst (λ (left : List ℕ). Progress c.args.out.now (element_lines c.args.label.now gs record_words 0 count c.args.report.now) left c.args.out.now) (lines_all c.args.label.now gs count c.args.report.now) (laid_none c.args.out.now c.requires.report_in_bounds)

pub element_line-requires : goal.element_line-requires
element_line-requires c =
    let h : c.loop-k.k < length c.args.report.now / record_words = omega (arith, c.loop-k-test.true, c.as_chunks.ensures.front_len) in
    part_fits c.loop-k.invariant (due c.args.label.now (groups_held c.args.groups) c.args.report.now c.loop-k.k c.name_of-name.result.now c.as_chunks.result.0.now h c.name_of-name.ensures.result_value c.as_chunks.ensures.front)

pub loop-k-preserved : goal.loop-k-preserved
loop-k-preserved c =
    let h : c.loop-k.k < length c.args.report.now / record_words = omega (arith, c.loop-k-test.true, c.as_chunks.ensures.front_len) in
    laid_more c.loop-k.invariant (due c.args.label.now (groups_held c.args.groups) c.args.report.now c.loop-k.k c.name_of-name.result.now c.as_chunks.result.0.now h c.name_of-name.ensures.result_value c.as_chunks.ensures.front) c.element_line.ensures
