-- What the code's marks and stages stand for in the definitions of the lot file.
use Rattle.std.specs.Prelude.{Option, None, Some}
use Rattle.std.proofs.Math.Option.{Option as FileOption, none, some}
use Rattle.lot_format.specs.Format.{Mark as FileMark, LB as mark_lb, ND as mark_nd, HX as mark_hx, GR as mark_gr, EN as mark_en, Stage as FileStage, at_label, at_nodes, at_elements, at_end}
use Rattle.lot_marks.specs.declared.Mark.{Mark}
use Rattle.lot_marks.specs.declared.Mark.TheVariants.{LB, ND, HX, GR, EN}
use Rattle.lot_marks.specs.declared.Stage.{Stage}
use Rattle.lot_marks.specs.declared.Stage.TheVariants.{AtLabel, AtNodes, AtElements, AtEnd}

abbrev pub mark_held : Mark → FileMark
mark_held LB = mark_lb
mark_held ND = mark_nd
mark_held HX = mark_hx
mark_held GR = mark_gr
mark_held EN = mark_en

abbrev pub marked_held : Option Mark → FileOption FileMark
marked_held (Some m) = some (mark_held m)
marked_held None = none

abbrev pub stage_held : Stage → FileStage
stage_held AtLabel = at_label
stage_held AtNodes = at_nodes
stage_held AtElements = at_elements
stage_held AtEnd = at_end
