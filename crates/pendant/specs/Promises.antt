-- What is promised of a rack with one card more on a last link. Each statement is proved in proofs/Promises.antt under its name.
-- Quotations: docs/REQUIREMENTS.md.
use Rattle.std.specs.Prelude.{◌≡◌, true, false, cond, [], ◌∷◌, ◌++◌, map, ◌↔◌, ℕ, suc, ◌-◌, ◌≤◌, ◌<◌, eqb, get_or}
use Rattle.rack.specs.Lists.{count, tabulate}
use Rattle.rack.specs.Wiring.{Wiring, link_count, link_at, touches}
use Rattle.rack.specs.Hops.{hops}
use Rattle.rack.specs.Columns.{columns, column_count, address}
use Rattle.rack.specs.Refusals.{wiring_refusal}
use Rattle.pendant.specs.Pendant.{with_card, without_card, last_hangs}

-- old pairs keep their hops, and the new card is one hop further than the card that it hangs on
unfoldable pub HopsAdded : Type 0
HopsAdded =
    (w : Wiring) (c a b : ℕ) → (wiring_refusal w).number ≡ 0 → c < w.cards → a < w.cards → b < w.cards →
    (hops (with_card w c) a b ≡ hops w a b)
    × (hops (with_card w c) a w.cards ≡ suc (hops w a c))
    × (hops (with_card w c) w.cards a ≡ suc (hops w c a))

-- each column with the bit of the card that the new one hangs on, and a last column that is 1 at the new card alone
unfoldable pub ColumnsAdded : Type 0
ColumnsAdded =
    (w : Wiring) (c : ℕ) → (wiring_refusal w).number ≡ 0 → c < w.cards →
    columns (with_card w c) ≡ map (λ x. x ++ (get_or x c false ∷ [])) (columns w) ++ ((tabulate w.cards (λ a. false) ++ (true ∷ [])) ∷ [])

-- the addresses: a column more; those of the old cards bit for bit, past the last column too; the new card has those of the card that it
-- hangs on, and 1 in the last column
unfoldable pub AddressesAdded : Type 0
AddressesAdded =
    (w : Wiring) (c : ℕ) → (wiring_refusal w).number ≡ 0 → c < w.cards →
    (column_count (with_card w c) ≡ suc (column_count w))
    × ((a j : ℕ) → a < w.cards → address (with_card w c) a j ≡ address w a j)
    × ((j : ℕ) → address (with_card w c) w.cards j ≡ cond (eqb j (column_count w)) true (address w c j))

-- an accepted rack is accepted with a card more, and without a last card that hangs on the last link
unfoldable pub AddedAccepted : Type 0
AddedAccepted = (w : Wiring) (c : ℕ) → (wiring_refusal w).number ≡ 0 → c < w.cards → (wiring_refusal (with_card w c)).number ≡ 0

unfoldable pub TakenOffAccepted : Type 0
TakenOffAccepted =
    (w : Wiring) → 1 ≤ w.cards → (wiring_refusal w).number ≡ 0 → last_hangs w ≡ true → (wiring_refusal (without_card w)).number ≡ 0

-- "where its one link is the last link": one link of all touches the last card, and the last link does
unfoldable pub HangsMeans : Type 0
HangsMeans =
    (w : Wiring) →
    (last_hangs w ≡ true)
    ↔ ((count (touches (w.cards - 1)) w.links ≡ 1) × (touches (w.cards - 1) (link_at w (link_count w - 1)) ≡ true))

-- "taking off undoes adding", of wirings: the new card hangs on the last link, and without it the rack is the old one
unfoldable pub TakenOffRestores : Type 0
TakenOffRestores =
    (w : Wiring) (c : ℕ) → (wiring_refusal w).number ≡ 0 → c < w.cards → (last_hangs (with_card w c) ≡ true) × (without_card (with_card w c) ≡ w)
