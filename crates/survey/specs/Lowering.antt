-- Upper bounds of hops, lowered over the links until they are hops. Assumes nothing: these are definitions.
use Rattle.std.specs.Prelude.{◌≡◌, cond, List, ℕ, ◌+◌, ◌*◌, ◌-◌, ◌≤◌, ◌<◌, min, ltb, eqb, length, get_or}
use Rattle.rack.specs.Lists.{sum}
use Rattle.rack.specs.Limits.{lent_hops, most_cards}
use Rattle.rack.specs.Wiring.{Wiring, link_at}
use Rattle.rack.specs.Hops.{hops}
use Rattle.survey.specs.Tables.{cell}

-- the first `upto` places of row `to` are lowered to one more than those of row `by`; `off` is the most that was taken off at one place
pub record Lowered (old new : List ℕ) (to by upto off : ℕ) : Type 0 where
  pub long : length new ≡ length old
  pub lower : (b : ℕ) → b < upto → cell new to b ≡ min (cell old to b) (cell old by b + 1)
  pub before : (i : ℕ) → i < most_cards * to → get_or new i 0 ≡ get_or old i 0
  pub after : (i : ℕ) → most_cards * to + upto ≤ i → get_or new i 0 ≡ get_or old i 0
  pub taken : sum new + off ≤ sum old
  pub still : off ≡ 0 → new ≡ old

-- an upper bound of hops at each pair of cards, and 0 elsewhere
pub record Above (w : Wiring) (h : List ℕ) : Type 0 where
  pub long : length h ≡ lent_hops
  pub over : (a b : ℕ) → a < w.cards → b < w.cards → hops w a b ≤ cell h a b
  pub most : (a b : ℕ) → a < w.cards → b < w.cards → cell h a b ≤ w.cards
  pub self : (a : ℕ) → a < w.cards → cell h a a ≡ 0
  pub rows : (a b : ℕ) → b < most_cards → w.cards ≤ a → cell h a b ≡ 0
  pub places : (a b : ℕ) → b < most_cards → w.cards ≤ b → cell h a b ≡ 0

-- link i has the rows of its two ends within one
pub record Tight (w : Wiring) (h : List ℕ) (i : ℕ) : Type 0 where
  pub first : (b : ℕ) → b < most_cards → cell h (link_at w i).first b ≤ cell h (link_at w i).second b + 1
  pub second : (b : ℕ) → b < most_cards → cell h (link_at w i).second b ≤ cell h (link_at w i).first b + 1

-- what lowering by the links from `from` to before `upto` does; `off` is the most that was taken off at one place
pub record Passed (w : Wiring) (old new : List ℕ) (from upto off : ℕ) : Type 0 where
  pub above : Above w new
  pub taken : sum new + off ≤ sum old
  pub still : off ≡ 0 → new ≡ old
  pub tight : off ≡ 0 → (i : ℕ) → from ≤ i → i < upto → Tight w new i

-- what lowering by some links does
pub record Swept (w : Wiring) (old new : List ℕ) : Type 0 where
  pub above : Above w new
  pub less : sum new ≤ sum old

-- what is known of hops in a connected rack of n cards before any link was looked at: fewer than n, and none from a card to itself
unfoldable pub first_bound : (n a b : ℕ) → ℕ
first_bound n a b = cond (eqb a b) 0 (cond (ltb b n) (n - 1) 0)

-- the rows of the cards below `upto` hold these bounds, and what stands behind them is 0
pub record Started (n : ℕ) (h : List ℕ) (upto : ℕ) : Type 0 where
  pub long : length h ≡ lent_hops
  pub is : (a b : ℕ) → b < most_cards → a < upto → cell h a b ≡ first_bound n a b
  pub rest : (i : ℕ) → most_cards * upto ≤ i → get_or h i 0 ≡ 0
