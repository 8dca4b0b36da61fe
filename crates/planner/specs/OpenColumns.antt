-- Columns as the planner opens them: for a link whose ends have the same address so far. Assumes nothing: these are definitions.
use Rattle.std.specs.Prelude.{◌≡◌, Bool, false, cond, ◌≢◌, List, [], ◌∷◌, ◌++◌, ℕ, ◌+◌, ◌*◌, ◌/◌, ◌%◌, ◌^◌, ◌≤◌, ◌<◌, ltb, length, get_or, take}
use Rattle.rack.specs.Limits.{lent_words}
use Rattle.rack.specs.Lists.{differ, one, any}
use Rattle.rack.specs.Bits.{number_bit, bits_value}
use Rattle.rack.specs.Wiring.{Link, Wiring}
use Rattle.rack.specs.Columns.{column, hamming}
use Rattle.survey.specs.Tables.{cell}
use Rattle.rack.specs.Words.{word_bit}

-- bit j of card c in a list of columns, 0 past the last
unfoldable pub bit_in : List (List Bool) → (c j : ℕ) → Bool
bit_in cs c j = get_or (get_or cs j []) c false

-- some column tells the two ends of the link apart
unfoldable pub separated : Link → List (List Bool) → Bool
separated l cs = any (λ c. differ (get_or c l.first false) (get_or c l.second false)) cs

unfoldable pub open_column : Wiring → Link → List (List Bool) → List (List Bool)
open_column w l cs = cond (separated l cs) cs (cs ++ (column w l ∷ []))

unfoldable pub open_columns : Wiring → List Link → List (List Bool) → List (List Bool)
open_columns w [] cs = cs
open_columns w (l ∷ ls) cs = open_columns w ls (open_column w l cs)

-- the columns that the first i links open
unfoldable pub columns_opened : Wiring → (i : ℕ) → List (List Bool)
columns_opened w i = open_columns w (take i w.links) []

-- the words hold the bits of n cards in these columns, and 0 elsewhere
pub record WordsOf (cs : List (List Bool)) (n : ℕ) (ws : List ℕ) : Type 0 where
  pub long : length ws ≡ lent_words
  pub is : (c t : ℕ) → c < n → t < 4 → get_or ws (4 * c + t) 0 ≡ bits_value 64 (λ i. bit_in cs c (64 * t + i))
  pub rest : (j : ℕ) → 4 * n ≤ j → get_or ws j 0 ≡ 0

-- `k` columns, those of the first i links, are fewer than n and are in the words
pub record ColumnsOpened (w : Wiring) (n i : ℕ) (ws : List ℕ) (k : ℕ) : Type 0 where
  pub room : k < n
  pub count : k ≡ length (columns_opened w i)
  pub words : WordsOf (columns_opened w i) n ws

-- the side of card c at a link p-q, from a table of hops: 1 in the set without card 0
unfoldable pub side_in : List ℕ → (p q c : ℕ) → Bool
side_in h p q c = differ (ltb (cell h c p) (cell h c q)) (ltb (cell h 0 p) (cell h 0 q))

-- the words of the cards before `upto` have the side of a link p-q added as column k
pub record ColumnAdded (h old new : List ℕ) (p q k upto : ℕ) : Type 0 where
  pub long : length new ≡ length old
  pub added : (c : ℕ) → c < upto → get_or new (4 * c + k / 64) 0 ≡ get_or old (4 * c + k / 64) 0 + one (side_in h p q c) * 2 ^ (k % 64)
  pub other : (c t : ℕ) → t < 4 → t ≢ k / 64 → get_or new (4 * c + t) 0 ≡ get_or old (4 * c + t) 0
  pub after : (j : ℕ) → 4 * upto ≤ j → get_or new j 0 ≡ get_or old j 0

-- the differing places of words t of two cards, and of all their words
abbrev pub part_hamming : List ℕ → (a b t : ℕ) → ℕ
part_hamming ws a b t = hamming 64 (number_bit (get_or ws (4 * a + t) 0)) (number_bit (get_or ws (4 * b + t) 0))

unfoldable pub words_hamming : List ℕ → (a b : ℕ) → ℕ
words_hamming ws a b = hamming 256 (word_bit ws a) (word_bit ws b)

-- the words of two cards are equal
abbrev pub SameWords : List ℕ → (a b : ℕ) → Type 0
SameWords ws a b = (t : ℕ) → t < 4 → get_or ws (4 * a + t) 0 ≡ get_or ws (4 * b + t) 0

-- no card has a bit in the words from `used` on
pub record WordsUsed (ws : List ℕ) (used : ℕ) : Type 0 where
  pub zero : (c t : ℕ) → used ≤ t → t < 4 → get_or ws (4 * c + t) 0 ≡ 0

-- every pair of cards b < a < upto has as many differing places as the table of hops says
pub record PairsMeasure (ws h : List ℕ) (upto : ℕ) : Type 0 where
  pub measured : (a b : ℕ) → a < upto → b < a → words_hamming ws a b ≡ cell h a b
