-- Marks of links, a bit for each ordered pair of cards: how many of the first links join two cards. Assumes nothing: these are definitions.
use Rattle.std.specs.Prelude.{◌≡◌, ◌≢◌, List, ℕ, ◌+◌, ◌<◌, length, take}
use Rattle.rack.specs.Limits.{lent_words, most_cards}
use Rattle.rack.specs.Lists.{one, count}
use Rattle.rack.specs.Wiring.{Wiring, joins}
use Rattle.rack.specs.Words.{word_bit}

-- as many of the first i links join two cards as there are marks of the two, in either order: the mark of a and b is bit b of card a
pub record LinksMarked (w : Wiring) (i : ℕ) (ms : List ℕ) : Type 0 where
  pub long : length ms ≡ lent_words
  pub is : (a b : ℕ) → a < most_cards → b < most_cards → a ≢ b →
      count (joins a b) (take i w.links) ≡ one (word_bit ms a b) + one (word_bit ms b a)
