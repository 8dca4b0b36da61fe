-- A wiring with one card more at the end of a last link, and one without such a card: a pendant node. Assumes nothing: these are definitions.
-- Quotations: docs/REQUIREMENTS.md.
use Rattle.std.specs.Prelude.{Bool, [], ◌∷◌, ◌++◌, ℕ, suc, ◌-◌, eqb, take}
use Rattle.rack.specs.Lists.{lowest}
use Rattle.rack.specs.Wiring.{Wiring, link, wiring, link_count, link_at, touches}

-- "card n on a new last link, first end the given card and second end n"
unfoldable pub with_card : Wiring → (card : ℕ) → Wiring
with_card w c = wiring (suc w.cards) (w.links ++ (link c w.cards ∷ []))

-- without the last card and the last link
unfoldable pub without_card : Wiring → Wiring
without_card w = wiring (w.cards - 1) (take (link_count w - 1) w.links)

-- the last card's "one link is the last link": of the links that touch the card, drawn either way, the lowest is the last link
unfoldable pub last_hangs : Wiring → Bool
last_hangs w = eqb (suc (lowest (link_count w) (λ i. touches (w.cards - 1) (link_at w i)))) (link_count w)
