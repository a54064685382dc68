-- `put_lot` meets its contract: part by part, what is left of the file. Assumes nothing.
use Rattle.std.proofs.Common.{◌≡◌, refl, List, [], ◌++◌, ℕ, length, arith}
use Rattle.lot_format.specs.Format.{lot_file, LB, EN, entry_bytes, node_entries, grouped_entries, written}
use Rattle.lot_format.specs.Runs.{Runs, groups_of, lot_from}
use Rattle.lot_roundtrip_theory.specs.Tests.{Writable}
use Rattle.lot_runs.specs.Meaning.{lot_held}
use Rattle.bytes_output.specs.declared.Output.{Output}
use Rattle.bytes_output.specs.Behind.{Laid}
use Rattle.bytes_output.specs.Progress.{Progress, first, last, laid_none, part_fits, laid_more, laid_last}
use Rattle.lot_writer.proofs.put_lot.Goals as goal

-- ---- the file, and what is left of it after its label, its nodes and its elements
abbrev grouped : Runs → List ℕ
grouped x = grouped_entries 0 (groups_of x.names x.lengths x.offsets) x.elements

abbrev after_nodes : Runs → List ℕ
after_nodes x = grouped x ++ entry_bytes EN []

abbrev after_label : Runs → List ℕ
after_label x = node_entries x.nodes ++ after_nodes x

-- ---- how far it is written, from the start of the space on
module _ (x : Runs) where
  none_laid : (start : Output) → start.at ≡ 0 → Writable lot_file x (length start.space.now) → Progress start (written (lot_from x)) (entry_bytes LB x.label ++ after_label x) start
  unfolding written
  none_laid start e h = laid_none start (omega (arith, e, h.fits))

  labelled : {start p : Output} → start.at ≡ 0 → Writable lot_file x (length start.space.now) → Laid start (entry_bytes LB x.label) p → Progress start (written (lot_from x)) (after_label x) p
  labelled {start} e h l = laid_more (none_laid start e h) (first (entry_bytes LB x.label) (after_label x)) l

  noded : {start p q : Output} → start.at ≡ 0 → Writable lot_file x (length start.space.now) → Laid start (entry_bytes LB x.label) p → Laid p (node_entries x.nodes) q → Progress start (written (lot_from x)) (after_nodes x) q
  noded e h l m = laid_more (labelled e h l) (first (node_entries x.nodes) (after_nodes x)) m

  all_grouped : {start p q r : Output} → start.at ≡ 0 → Writable lot_file x (length start.space.now) → Laid start (entry_bytes LB x.label) p → Laid p (node_entries x.nodes) q → Laid q (grouped x) r → Progress start (written (lot_from x)) (entry_bytes EN []) r
  all_grouped e h l m n = laid_more (noded e h l m) (first (grouped x) (entry_bytes EN [])) n

-- ---- the needs
pub put_entry-requires : goal.put_entry-requires
put_entry-requires c =
    let x = lot_held c.args.lot in
    (omega (arith, c.requires.1.label_short), part_fits (none_laid x c.args.out.now c.requires.0 c.requires.1) (first (entry_bytes LB x.label) (after_label x)))

pub put_nodes-requires : goal.put_nodes-requires
put_nodes-requires c =
    let x = lot_held c.args.lot in
    part_fits (labelled x c.requires.0 c.requires.1 c.put_entry.ensures) (first (node_entries x.nodes) (after_nodes x))

pub put_grouped-requires : goal.put_grouped-requires
put_grouped-requires c =
    let x = lot_held c.args.lot in
    record {
      grouped = record { eights = c.requires.1.eights; paired = c.requires.1.paired; sums = c.requires.1.sums; rises = c.requires.1.rises; short = c.requires.1.names_short };
      elements_in_bounds = part_fits (noded x c.requires.0 c.requires.1 c.put_entry.ensures c.put_nodes.ensures) (first (grouped x) (entry_bytes EN []));
    }

pub put_entry-requires-2 : goal.put_entry-requires-2
put_entry-requires-2 c =
    let x = lot_held c.args.lot in
    (omega arith, part_fits (all_grouped x c.requires.0 c.requires.1 c.put_entry.ensures c.put_nodes.ensures c.put_grouped.ensures) (last refl))

pub returns : goal.returns
returns c =
    let x = lot_held c.args.lot in
    laid_last (all_grouped x c.requires.0 c.requires.1 c.put_entry.ensures c.put_nodes.ensures c.put_grouped.ensures) (last refl) c.put_entry-2.ensures
