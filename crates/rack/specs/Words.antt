-- Bits in words: four words a card, a bit for each number below 256. Assumes nothing: these are definitions.
use Rattle.std.specs.Prelude.{◌≡◌, Bool, true, ◌≢◌, List, ℕ, ◌+◌, ◌*◌, ◌/◌, ◌%◌, ◌<◌, length, get_or}
use Rattle.rack.specs.Limits.{most_cards}
use Rattle.rack.specs.Bits.{number_bit}

-- column j of card c: bit j mod 64 of word j / 64 of that card
unfoldable pub word_bit : List ℕ → (c j : ℕ) → Bool
word_bit ws c j = number_bit (get_or ws (4 * c + j / 64) 0) (j % 64)

-- card c has bit j, and no other bit is changed
pub record BitSet (c j : ℕ) (old new : List ℕ) : Type 0 where
  pub long : length new ≡ length old
  pub is : word_bit new c j ≡ true
  pub others : (x y : ℕ) → y < most_cards → (x ≡ c → y ≢ j) → word_bit new x y ≡ word_bit old x y
