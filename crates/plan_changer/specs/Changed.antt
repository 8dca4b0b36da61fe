-- What has to be known of a plan before it is changed, and its bytes with one card more and without the last card, made of its own bytes.
-- Assumes nothing: these are definitions.
use Rattle.std.specs.Prelude.{List, ◌++◌, ℕ, ◌+◌, ◌-◌, ◌<◌}
use Rattle.rack.specs.Lists.{blocks}
use Rattle.rack.specs.Buffers.{two_bytes}
use Rattle.rack.specs.PlanFile.{plan_cards, plan_links, plan_columns}
use Rattle.rack.specs.declared.views.Plan.{Plan}
use Rattle.plan_parts.specs.Parts.{first_ends, second_ends, row, row_with_one}

-- all that is asked of a plan whose reading was not refused, beside its sizes: fewer columns than cards, and a column where there is a link.
-- The calls take no `ReadPlan`, which would ask more of callers and says neither: `Measured` allows columns without ones, and links from a card
-- to itself
pub record Known (p : Plan) : Type 0 where
  pub few : p.columns < p.cards
  pub crossed : 0 < p.links → 0 < p.columns

-- with card n on a new last link from card c
unfoldable pub more_bytes : List ℕ → (c : ℕ) → List ℕ
more_bytes ps c =
    let n = plan_cards ps in
    let m = plan_links ps in
    let k = plan_columns ps in
    two_bytes (n + 1) ++ two_bytes (m + 1) ++ two_bytes (k + 1)
    ++ (first_ends ps m ++ two_bytes c ++ second_ends ps m ++ two_bytes n)
    ++ (blocks n (row ps (k + 1)) ++ row_with_one ps c)

-- without the last card, the last link and the last column
unfoldable pub fewer_bytes : List ℕ → List ℕ
fewer_bytes ps =
    let n = plan_cards ps - 1 in
    let m = plan_links ps - 1 in
    let k = plan_columns ps - 1 in
    two_bytes n ++ two_bytes m ++ two_bytes k ++ (first_ends ps m ++ second_ends ps m) ++ blocks n (row ps k)
