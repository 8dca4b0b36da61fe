-- The lowest link that touches the last card is counted from 0, so the last one is it exactly if one more is m. Assumes nothing.
use Rattle.std.proofs.Common.{rules}
use Rattle.plan_parts.proofs.Searching.{hangs_answered}
use Rattle.plan_parts.proofs.links.last_hangs.Goals as goal

pub returns : goal.returns
returns c = hangs_answered _ c.args.plan.sized c.lowest_link.result _ c.lowest_link.ensures c.is_some_and.ensures (λ i h p. search rules)
