-- Marks of linked pairs: how many of the first links join two cards. Assumes nothing: these are definitions.
use Rattle.std.specs.Prelude.{◌≡◌, ◌≢◌, List, ℕ, ◌<◌, length, take}
use Rattle.rack.specs.Limits.{lent_hops, most_cards}
use Rattle.rack.specs.Lists.{count}
use Rattle.rack.specs.Wiring.{Wiring, joins}
use Rattle.survey.specs.Tables.{cell}

pub record Marked (w : Wiring) (i : ℕ) (h : List ℕ) : Type 0 where
  pub long : length h ≡ lent_hops
  pub is : (a b : ℕ) → a < most_cards → b < most_cards → a ≢ b → cell h a b ≡ count (joins a b) (take i w.links)
