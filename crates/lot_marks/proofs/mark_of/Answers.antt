-- `mark_of` meets its contract: a number that was tested for is known, and any other is none of the five. Assumes nothing.
use Rattle.std.proofs.Common.{rules, sym}
use Rattle.lot_format.specs.Format.{mark_of}
use Rattle.lot_marks.proofs.Laws.{mark_none}
use Rattle.lot_marks.proofs.mark_of.Goals as goal

pub returns-in-17486 : goal.returns-in-17486
unfolding mark_of
returns-in-17486 c = rw c.in-17486.is

pub returns-in-22600 : goal.returns-in-22600
unfolding mark_of
returns-in-22600 c = rw c.in-22600.is

pub returns-in-16972 : goal.returns-in-16972
unfolding mark_of
returns-in-16972 c = rw c.in-16972.is

pub returns-in-21063 : goal.returns-in-21063
unfolding mark_of
returns-in-21063 c = rw c.in-21063.is

pub returns-in-20037 : goal.returns-in-20037
unfolding mark_of
returns-in-20037 c = rw c.in-20037.is

pub returns-in_default : goal.returns-in_default
returns-in_default c = sym (mark_none _ (search rules) (search rules) (search rules) (search rules) (search rules))
