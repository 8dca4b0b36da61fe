-- What is promised of the sum of hops. Each statement is proved in proofs/Promises.antt under its name. Quotations: docs/REQUIREMENTS.md.
use Rattle.std.specs.Prelude.{◌≡◌, true, ℕ, suc, ◌+◌, ◌*◌, ◌-◌, ◌^◌, ◌≤◌, ◌<◌}
use Rattle.rack.specs.Wiring.{Wiring, link_count, link_at, other_end}
use Rattle.rack.specs.Columns.{columns}
use Rattle.rack.specs.Refusals.{wiring_refusal}
use Rattle.pendant.specs.Pendant.{with_card, without_card, last_hangs}
use Rattle.totals.specs.Totals.{hops_to, total_hops, column_products, chain}

-- "the sum equals that over columns of ones times zeros"
unfoldable pub TotalByColumns : Type 0
TotalByColumns = (w : Wiring) → 1 ≤ w.cards → (wiring_refusal w).number ≡ 0 → total_hops w ≡ column_products (columns w)

-- "adding raises the old sum by n and by the given card's hops to all cards": both of the rack before the card was added
unfoldable pub TotalAdded : Type 0
TotalAdded =
    (w : Wiring) (c : ℕ) → (wiring_refusal w).number ≡ 0 → c < w.cards →
    total_hops (with_card w c) ≡ total_hops w + w.cards + hops_to w w.cards c

-- "taking off undoes this": by the cards that are left, and the hops of the one that the last card hung on
unfoldable pub TotalRemoved : Type 0
TotalRemoved =
    (w : Wiring) → 1 ≤ w.cards → (wiring_refusal w).number ≡ 0 → last_hangs w ≡ true →
    let v = without_card w in
    let c = other_end (w.cards - 1) (link_at w (link_count w - 1)) in
    total_hops w ≡ total_hops v + v.cards + hops_to v v.cards c

-- it fits 32 bits, of every wiring of up to 256 cards
unfoldable pub TotalFits : Type 0
TotalFits = (w : Wiring) → w.cards ≤ 256 → total_hops w < 2 ^ 32

-- "A chain of 256 cards has 2,796,160"; a chain of n + 1 cards is accepted and has a sixth of n (n + 1) (n + 2)
unfoldable pub ChainTotal : Type 0
ChainTotal =
    (total_hops (chain 256) ≡ 2796160)
    × ((n : ℕ) → ((wiring_refusal (chain (suc n))).number ≡ 0) × (6 * total_hops (chain (suc n)) ≡ n * (n + 1) * (n + 2)))
