-- Eight bytes in a word, lowest first: a column for each, and in it a bit for each of eight cards. Assumes nothing: these are definitions.
use Rattle.std.specs.Prelude.{◌≡◌, Bool, ◌≢◌, List, ℕ, zero, suc, ◌+◌, ◌*◌, ◌/◌, ◌%◌, ◌^◌, ◌<◌, length, get_or}
use Rattle.rack.specs.Lists.{one}
use Rattle.rack.specs.Bits.{number_bit}
use Rattle.card_sets.specs.Sets.{set_word}

-- the number with bytes f 0 to f (n - 1)
unfoldable pub bytes_value : (n : ℕ) → (f : ℕ → ℕ) → ℕ
bytes_value zero f = 0
bytes_value (suc n) f = f 0 + 256 * bytes_value n (λ j. f (suc j))

-- the eight bits of a byte, one in each byte of a word
unfoldable pub spread : (x : ℕ) → ℕ
spread x = bytes_value 8 (λ j. one (number_bit x j))

abbrev pub Spreads : (table : List ℕ) → Type 0
Spreads table = (x : ℕ) → x < 256 → get_or table x 0 ≡ spread x

-- each of the eight bytes of a word is put below the bits of one of eight words, every fourth one from a place on
pub record BytesPut (word at : ℕ) (old new : List ℕ) (upto : ℕ) : Type 0 where
  pub long : length new ≡ length old
  pub is : (j : ℕ) → j < upto → get_or new (at + 4 * j) 0 ≡ word / 256 ^ j % 256 + 256 * get_or old (at + 4 * j) 0
  pub others : (x : ℕ) → ((j : ℕ) → j < upto → x ≢ at + 4 * j) → get_or new x 0 ≡ get_or old x 0

-- word t of the sets of eight columns, those of byte b of an address, is written
pub record EightWritten (n : ℕ) (rows : ℕ → ℕ → Bool) (b t : ℕ) (old new : List ℕ) : Type 0 where
  pub long : length new ≡ length old
  pub is : (j : ℕ) → j < 8 → get_or new (32 * b + t + 4 * j) 0 ≡ set_word n (λ c. rows c (8 * b + j)) t
  pub others : (x : ℕ) → ((j : ℕ) → j < 8 → x ≢ 32 * b + t + 4 * j) → get_or new x 0 ≡ get_or old x 0
