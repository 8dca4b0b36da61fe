-- All links are in order exactly if those from i on are, with the columns opened so far; the columns that those before i cross are written. Assumes
-- nothing.
use mathlib.Core.Path.{◌≡◌}
use Prim.Native.Nat.{◌≤◌}
use Rattle.rack.specs.PlanFile.{plan_bit, plan_wiring}
use Rattle.plan_tests.specs.Tests.{columns_in_order}
use Rattle.plan_tests.specs.Crossed.{CrossedColumns}
use Rattle.plan_tests.proofs.OrderedLinks.{in_order_from}
use Rattle.plan_tests.proofs.order.order_holds.Given as goal

abbrev pub invariant-loop-i : goal.invariant-loop-i
invariant-loop-i l =
    let ps = l.linked.plan.bytes.now in
    let k = l.linked.plan.columns in
    (l.opened ≤ l.i)
    × (columns_in_order k (plan_bit ps) 0 (plan_wiring ps).links ≡ in_order_from ps k l.i l.opened)
    × CrossedColumns k (plan_bit ps) (plan_wiring ps) l.crossed l.i
