-- The loop's invariant: the sum is that of the first j columns' products. Assumes nothing.
use Rattle.std.proofs.Common.{◌≡◌}
use Rattle.rack.specs.PlanFile.{plan_bit}
use Rattle.totals.specs.Totals.{bit_products}
use Rattle.plan_totals.proofs.products.Given as goal

abbrev pub invariant-loop-j : goal.invariant-loop-j
invariant-loop-j l = l.sum ≡ bit_products (plan_bit l.plan.bytes.now) l.plan.cards l.j
