-- The sum of hops over all pairs of cards (the Wiener index of the rack as a graph). Assumes nothing: these are definitions.
-- Quotations: docs/REQUIREMENTS.md.
use Rattle.std.specs.Prelude.{Bool, not, List, map, ℕ, suc, ◌*◌, ◌-◌}
use Rattle.rack.specs.Lists.{count, sum, tabulate, range}
use Rattle.rack.specs.Wiring.{Wiring, link, wiring}
use Rattle.rack.specs.Hops.{hops}

-- from card a to the first n cards
unfoldable pub hops_to : Wiring → (n a : ℕ) → ℕ
hops_to w n a = sum (tabulate n (hops w a))

-- "the sum of hops over all pairs of different cards, each pair once": each card to those below it
unfoldable pub total_hops : Wiring → ℕ
total_hops w = sum (tabulate w.cards (λ a. hops_to w a a))

-- "over columns of ones times zeros"
unfoldable pub column_products : List (List Bool) → ℕ
column_products cs = sum (map (λ c. count (λ b. b) c * count not c) cs)

-- the same of bits, card by card: the ones of column j over n cards, and the sum over k columns
unfoldable pub ones_of : (ℕ → ℕ → Bool) → (n j : ℕ) → ℕ
ones_of bits n j = count (λ c. bits c j) (range n)

unfoldable pub bit_products : (ℕ → ℕ → Bool) → (n k : ℕ) → ℕ
bit_products bits n k = sum (tabulate k (λ j. ones_of bits n j * (n - ones_of bits n j)))

-- cards 0 to n - 1 in a row, each linked to the next
unfoldable pub chain : (n : ℕ) → Wiring
chain n = wiring n (tabulate (n - 1) (λ i. link i (suc i)))
