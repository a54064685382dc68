-- `audit_points::bounds` meets its contract: no coefficient passes the greatest number. Assumes nothing.
use mathlib.Core.Path.{ap, ◌∙◌}
use lib.IntN.{pos}
use Rattle.audit_theory.specs.Walk.{surveyed}
use Rattle.audit_cut.specs.Word.{largest}
use Rattle.audit_notes.specs.Meaning.{extremes_in}
use Rattle.audit_points.specs.Points.{points_small, walk_room, survey_few, survey_walk}
use Rattle.audit_points.proofs.bounds.Goals as goal

pub xi-survey-requires : goal.xi-survey-requires
xi-survey-requires c = let xs = c.args.p.now in let g = c.coefficients-g.result in let D = c.args.depth in
    walk_room g D (points_small xs g D c.requires.0 c.requires.1 c.coefficients-g.ensures) c.requires.1 (surveyed (record { low = pos largest; high = pos largest })) (survey_few D c.requires.1)

pub returns : goal.returns
returns c = let xs = c.args.p.now in let g = c.coefficients-g.result in let D = c.args.depth in let e = c.coefficients-g.ensures in
    c.surveyed.ensures ∙ ap extremes_in (survey_walk xs g D e (points_small xs g D c.requires.0 c.requires.1 e) c.xi-survey.ensures)
