-- Over an embedding the hops are summed column by column. Assumes nothing.
use Rattle.std.proofs.Common.{◌∙◌}
use Rattle.plan_totals.proofs.Summing.{products_total}
use Rattle.plan_totals.proofs.plan_total.Goals as goal

pub returns : goal.returns
returns c = c.products.ensures ∙ products_total _ c.args.read.plan.sized c.args.read.measured
