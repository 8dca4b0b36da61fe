-- Flags of the cards that can be reached from card 0, in the first places of a buffer. Assumes nothing: these are definitions.
use Rattle.std.specs.Prelude.{◌≡◌, not, ◌≢◌, List, ℕ, ◌+◌, ◌≤◌, ◌<◌, eqb, length, get_or}
use Rattle.rack.specs.Limits.{lent_hops, most_cards}
use Rattle.rack.specs.Lists.{count, range}
use Rattle.rack.specs.Wiring.{Wiring, link_at}
use Rattle.rack.specs.Hops.{hops}

-- how many of 256 cards are flagged
unfoldable pub flags : List ℕ → ℕ
flags s = count (λ c. not (eqb (get_or s c 0) 0)) (range most_cards)

-- 1 at card 0 and at some cards that can be reached from it, else 0
pub record Flagged (w : Wiring) (s : List ℕ) : Type 0 where
  pub long : length s ≡ lent_hops
  pub flag : (c : ℕ) → get_or s c 0 ≤ 1
  pub start : get_or s 0 0 ≡ 1
  pub real : (c : ℕ) → c < w.cards → get_or s c 0 ≢ 0 → hops w 0 c < w.cards

-- what spreading the flags over the links from `from` to before `upto` does; `moved` flags are new
pub record Spread (w : Wiring) (old new : List ℕ) (from upto moved : ℕ) : Type 0 where
  pub flagged : Flagged w new
  pub more : flags new ≡ flags old + moved
  pub still : moved ≡ 0 → new ≡ old
  pub closed : moved ≡ 0 → (i : ℕ) → from ≤ i → i < upto → get_or new (link_at w i).first 0 ≡ get_or new (link_at w i).second 0

-- the flags are those of the cards that can be reached
pub record Reached (w : Wiring) (s : List ℕ) : Type 0 where
  pub long : length s ≡ lent_hops
  pub reach : (c : ℕ) → c < w.cards → get_or s c 0 ≢ 0 → hops w 0 c < w.cards
  pub apart : (c : ℕ) → c < w.cards → get_or s c 0 ≡ 0 → hops w 0 c ≡ w.cards
