-- The lent bytes as a table: hops (or marks, flags, bounds) in 256 rows of 256. Assumes nothing: these are definitions.
use Rattle.std.specs.Prelude.{◌≡◌, List, ℕ, ◌+◌, ◌*◌, ◌≤◌, ◌<◌, length, get_or}
use Rattle.rack.specs.Limits.{lent_hops, most_cards}
use Rattle.rack.specs.Wiring.{Wiring}
use Rattle.rack.specs.Hops.{hops}

-- row a, place b
abbrev pub cell : List ℕ → (a b : ℕ) → ℕ
cell h a b = get_or h (most_cards * a + b) 0

-- the hops between all cards, and 0 elsewhere
pub record HopsIn (w : Wiring) (h : List ℕ) : Type 0 where
  pub long : length h ≡ lent_hops
  pub is : (a b : ℕ) → a < w.cards → b < w.cards → cell h a b ≡ hops w a b
  pub rows : (a b : ℕ) → b < most_cards → w.cards ≤ a → cell h a b ≡ 0
  pub places : (a b : ℕ) → b < most_cards → w.cards ≤ b → cell h a b ≡ 0
