-- `mesh_records::write_records` meets its contract: before each turn the first e records are entered. Assumes nothing.
use Rattle.std.proofs.Common.{◌/◌, ◌<◌, ap, ◌∙◌, List, [], ℕ, get_or, length, arith}
use Rattle.definitions.specs.Limits.{base}
use Rattle.definitions.specs.Mesh.{element_record}
use Rattle.mesh_report.specs.Entries.{chunk_of, entered_room, entered_next, entered_all}
use Rattle.mesh_records.proofs.write_records.Goals as goal

pub enter-counts-requires : goal.enter-counts-requires
enter-counts-requires c =
    let more : c.loop-e.e < length c.args.indices.now / 8 = omega (arith, c.as_chunks.ensures.front_len) in
    let lent = ap (λ (l : List (List ℕ)). get_or l c.loop-e.e []) c.as_chunks.ensures.front ∙ chunk_of _ _ _ more in
    let words = c.element-words.ensures ∙ ap (λ (ix : List ℕ). element_record base c.args.coordinates.now ix c.args.depth) lent in
    entered_room base c.args.coordinates.now c.args.indices.now c.args.depth c.args.report.now c.requires.indices_len.2 c.loop-e.invariant more words (omega arith) c.requires.indices_len.1

pub loop-e-preserved : goal.loop-e-preserved
loop-e-preserved c =
    let more : c.loop-e.e < length c.args.indices.now / 8 = omega (arith, c.as_chunks.ensures.front_len) in
    let lent = ap (λ (l : List (List ℕ)). get_or l c.loop-e.e []) c.as_chunks.ensures.front ∙ chunk_of _ _ _ more in
    let words = c.element-words.ensures ∙ ap (λ (ix : List ℕ). element_record base c.args.coordinates.now ix c.args.depth) lent in
    entered_next base c.args.coordinates.now c.args.indices.now c.args.depth c.args.report.now c.requires.indices_len.2 c.loop-e.invariant more words c.enter-counts.ensures.report_after c.enter-counts.ensures.result_value

pub returns : goal.returns
returns c =
    let all = entered_all base c.args.coordinates.now c.args.indices.now c.args.depth c.args.report.now c.requires.indices_len.2 c.loop-e.invariant (omega arith) in
    record { result_value = all.0; report_after = all.1 }
