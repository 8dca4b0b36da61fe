-- Plan files as they are read: layout (12) and content (13). Assumes nothing: these are definitions.
use Rattle.std.specs.Prelude.{Bool, ◌&&◌, not, cond, List, ℕ, ◌+◌, ◌*◌, leb, eqb, length}
use Rattle.rack.specs.Lists.{same}
use Rattle.rack.specs.Limits.{most_cards, most_links, most_columns}
use Rattle.rack.specs.Refusals.{wiring_refusal}
use Rattle.rack.specs.PlanFile.{plan_cards, plan_links, plan_columns, plan_wiring, address_size, addresses_start}
use Rattle.planner.specs.PlanBytes.{plan_bytes}

-- 12: a plan without it has its sizes in their ranges and the length that they give
unfoldable pub layout_holds : List ℕ → Bool
layout_holds ps =
    leb 6 (length ps) && leb 1 (plan_cards ps) && leb (plan_cards ps) most_cards && leb (plan_links ps) most_links
    && leb (plan_columns ps) most_columns
    && eqb (length ps) (addresses_start (plan_links ps) + plan_cards ps * address_size (plan_columns ps))

-- 13: not the bytes that the planner writes for this wiring
unfoldable pub content_holds : List ℕ → Bool
content_holds ps = eqb (wiring_refusal (plan_wiring ps)).number 0 && same eqb (plan_bytes (plan_wiring ps)) ps

unfoldable pub plan_refusal : List ℕ → ℕ
plan_refusal ps = cond (not (layout_holds ps)) 12 (cond (not (content_holds ps)) 13 0)
