-- Sets of cards in four words each, as the code holds them. Assumes nothing: these are definitions.
use Rattle.std.specs.Prelude.{◌≡◌, Bool, ◌&&◌, List, ℕ, ◌+◌, ◌*◌, ◌<◌, ltb, length, get_or}
use Rattle.rack.specs.Limits.{lent_words}
use Rattle.rack.specs.Bits.{bits_value}

-- word t of a set of cards below n
unfoldable pub set_word : (n : ℕ) → (set : ℕ → Bool) → (t : ℕ) → ℕ
set_word n s t = bits_value 64 (λ i. ltb (64 * t + i) n && s (64 * t + i))

-- four words a column hold the cards with 1 in it
pub record ColumnWords (n k : ℕ) (rows : ℕ → ℕ → Bool) (ws : List ℕ) : Type 0 where
  pub long : length ws ≡ lent_words
  pub is : (j t : ℕ) → j < k → t < 4 → get_or ws (4 * j + t) 0 ≡ set_word n (λ c. rows c j) t
