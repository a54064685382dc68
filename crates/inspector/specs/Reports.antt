-- The report element by element: the words of each in it.
use Rattle.std.specs.Prelude.{◌≡◌, List, [], ◌∷◌, ◌++◌, ℕ, zero, suc, ◌+◌, ◌*◌, ◌/◌, ◌<◌, get_or, length, take, drop, ℤ}
use Rattle.std.proofs.Common.{sym, ◌∙◌, ap, subst, arith, take_at, drop_at, drop-drop}
use Rattle.foundation.specs.Lists.{All, all_tabulate, concat_map, tabulate, length_tabulate, tabulate_at}
use Rattle.definitions.specs.Limits.{Limits, record_words}
use Rattle.definitions.specs.Mesh.{element_record, records, report}
use Rattle.verdict_theory.specs.Elements.{element_length}
use Rattle.mesh_report.specs.Entries.{record_at}

concat_part : (rs : List (List ℤ)) (e : ℕ) → All (λ r. length r ≡ record_words) rs → e < length rs → take record_words (drop (record_words * e) (concat_map (λ r. r) rs)) ≡ get_or rs e []
concat_part [] e h l = absurd (omega arith)
concat_part (r ∷ rs) zero h l = take_at r (concat_map (λ x. x) rs) record_words h.0
concat_part (r ∷ rs) (suc e) h l =
    let p : record_words * suc e ≡ record_words + record_words * e = omega arith in
    ap (λ (n : ℕ). take record_words (drop n (r ++ concat_map (λ x. x) rs))) p
    ∙ ap (take record_words) (sym (drop-drop (record_words * e) record_words (r ++ concat_map (λ x. x) rs)) ∙ ap (drop (record_words * e)) (drop_at r (concat_map (λ x. x) rs) record_words h.0))
    ∙ concat_part rs e h.1 (omega arith)

pub report_part : (L : Limits) (coordinates : List ℤ) (indices : List ℕ) (D e : ℕ) → e < length indices / 8 → take record_words (drop (record_words * e) (report L coordinates indices D)) ≡ element_record L coordinates (take 8 (drop (8 * e) indices)) D
unfolding report records
report_part L coordinates indices D e h =
    let f = record_at L coordinates indices D in
    let n = length indices / 8 in
    concat_part (tabulate f 0 n) e (all_tabulate (λ r. length r ≡ record_words) f 0 n (λ k _ _. element_length L coordinates (take 8 (drop (8 * k) indices)) D)) (subst (λ (k : ℕ). e < k) (sym (length_tabulate f 0 n)) h)
    ∙ tabulate_at f n e [] h
