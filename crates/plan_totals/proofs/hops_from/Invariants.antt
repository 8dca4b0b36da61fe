-- The loop's invariant: the sum is that of the hops to the first c cards. Assumes nothing.
use Rattle.std.proofs.Common.{◌≡◌}
use Rattle.rack.specs.PlanFile.{plan_wiring}
use Rattle.totals.specs.Totals.{hops_to}
use Rattle.plan_totals.proofs.hops_from.Given as goal

abbrev pub invariant-loop-c : goal.invariant-loop-c
invariant-loop-c l = l.sum ≡ hops_to (plan_wiring l.read.plan.bytes.now) l.c l.fn.card
