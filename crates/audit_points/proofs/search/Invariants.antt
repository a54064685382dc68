-- What holds when a turn of the loop of `search` begins: the levels before m were all blocked.
use Rattle.audit_points.specs.Points.{Ready}
use Rattle.audit_points.proofs.search.Given as goal

abbrev pub invariant-loop-m : goal.invariant-loop-m
invariant-loop-m l = Ready l.g l.m l.opened
