-- The first link found is the lowest that touches the card. Assumes nothing.
use mathlib.Core.Path.{sym, ◌∙◌}
use native.Mathlib.Omega.{arith}
use borrow.Author.Count.{below_more}
use Rattle.rack.proofs.Tables.{lowest_is}
use Rattle.plan_parts.proofs.links.lowest_link.Goals as goal

pub returns-then-touches_card : goal.returns-then-touches_card
returns-then-touches_card c =
    (sym (lowest_is c.args.plan.links _ c.loop-i.i (omega arith) c.loop-i.invariant (λ h. sym c.touches_card.ensures ∙ c.if-touches_card.true)), omega arith)

pub loop-i-preserved : goal.loop-i-preserved
loop-i-preserved c = below_more _ _ c.loop-i.invariant (sym c.touches_card.ensures ∙ c.if-touches_card.false)

pub returns : goal.returns
returns c = lowest_is c.args.plan.links _ c.args.plan.links (omega arith) (λ j h. c.loop-i.invariant j (omega arith)) (λ h. absurd (omega arith))
