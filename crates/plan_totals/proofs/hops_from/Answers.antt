-- The loop's invariant: the sum is that of the hops to the first c cards. Assumes nothing.
use Rattle.std.proofs.Common.{◌≡◌, sym, ◌+◌, ◌*◌, ◌≤◌, arith}
use Rattle.rack.specs.Limits.{most_cards}
use Rattle.rack.specs.PlanFile.{plan_wiring}
use Rattle.totals.specs.Totals.{hops_to}
use Rattle.plan_totals.proofs.Summing.{hops_none, hops_more, hops_few}
use Rattle.plan_totals.proofs.hops_from.Goals as goal
use Rattle.plan_totals.proofs.hops_from.Goals.{After-hamming-sum}

-- one card more
module _ (c : After-hamming-sum) where
  added : c.loop-c.sum + c.hamming-sum.result ≡ hops_to (plan_wiring c.args.read.plan.bytes.now) (c.loop-c.c + 1) c.args.card
  added =
      hops_more _ c.args.read.plan.sized c.args.read.measured c.args.card c.requires c.loop-c.c c.loop-c.sum c.hamming-sum.result
      (omega arith) c.loop-c.invariant c.hamming-sum.ensures

  few : hops_to (plan_wiring c.args.read.plan.bytes.now) (c.loop-c.c + 1) c.args.card ≤ (c.loop-c.c + 1) * most_cards
  few = hops_few _ c.args.read.plan.sized c.args.read.measured c.args.card c.requires (c.loop-c.c + 1) (omega arith)

pub loop-c-init : goal.loop-c-init
loop-c-init c = sym (hops_none c.args.read.plan.bytes.now c.args.card)

pub overflow_add-sum : goal.overflow_add-sum
overflow_add-sum c = omega (arith, added c, few c, c.args.read.plan.sized.few)

pub loop-c-preserved : goal.loop-c-preserved
loop-c-preserved c = added c
