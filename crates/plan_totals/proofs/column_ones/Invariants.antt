-- The loop's invariant: the ones counted are those of the first c cards. Assumes nothing.
use Rattle.std.proofs.Common.{◌≡◌}
use Rattle.rack.specs.PlanFile.{plan_bit}
use Rattle.totals.specs.Totals.{ones_of}
use Rattle.plan_totals.proofs.column_ones.Given as goal

abbrev pub invariant-loop-c : goal.invariant-loop-c
invariant-loop-c l = l.ones ≡ ones_of (plan_bit l.plan.bytes.now) l.c l.j
