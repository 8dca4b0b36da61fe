-- Either end decides. Assumes nothing.
use Rattle.std.proofs.Common.{arith}
use Rattle.plan_parts.proofs.Searching.{touches_first, touches_second}
use Rattle.plan_parts.proofs.links.touches_card.Goals as goal

pub returns-then-p-card : goal.returns-then-p-card
returns-then-p-card c = touches_first _ _ _ c.ends-p.ensures.first (omega arith)

pub returns-else-p-card : goal.returns-else-p-card
returns-else-p-card c = touches_second _ _ _ _ c.ends-p.ensures.first (λ e. omega arith) c.ends-p.ensures.second
