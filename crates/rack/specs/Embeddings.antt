-- Embeddings up to the order of columns, complements and constant columns (demand 3, docs/REQUIREMENTS.md). Assumes nothing: these are definitions.
use Rattle.std.specs.Prelude.{◌≡◌, Bool, false, ◌||◌, not, cond, List, [], ◌∷◌, map, ℕ, ◌+◌, ◌<◌, length, get_or}
use Rattle.rack.specs.Lists.{differ, one, count, all, filter, tabulate, range}
use Rattle.rack.specs.Wiring.{Wiring}
use Rattle.rack.specs.Hops.{hops}
use Rattle.rack.specs.Columns.{same_column}

-- column j of rows of bits for n cards
unfoldable pub column_of : (n : ℕ) → (rows : ℕ → ℕ → Bool) → (j : ℕ) → List Bool
column_of n r j = tabulate n (λ c. r c j)

-- all cards agree in it
unfoldable pub constant : List Bool → Bool
constant c = all (λ x. x) c || all not c

-- complemented where card 0 has 1
unfoldable pub from_card_zero : List Bool → List Bool
from_card_zero c = cond (get_or c 0 false) (map not c) c

-- the first k columns without those in which all cards agree, each with 0 at card 0
unfoldable pub reduced_columns : (n k : ℕ) → (rows : ℕ → ℕ → Bool) → List (List Bool)
reduced_columns n k r =
    map (λ j. from_card_zero (column_of n r j)) (filter (λ j. not (constant (column_of n r j))) (range k))

-- how often a column occurs
unfoldable pub times : List Bool → List (List Bool) → ℕ
times c cs = count (same_column c) cs

-- A CHOICE AS A LIST of rows: in how many places two rows differ
unfoldable pub differing : (xs ys : List Bool) → ℕ
differing [] ys = 0
differing (x ∷ xs) [] = 0
differing (x ∷ xs) (y ∷ ys) = one (differ x y) + differing xs ys

-- "gives each card a row of bits, all rows equally long", and has the property of demand 2
pub record Choice (w : Wiring) (k : ℕ) (rows : List (List Bool)) : Type 0 where
  pub each : length rows ≡ w.cards
  pub long : (c : ℕ) → c < w.cards → length (get_or rows c []) ≡ k
  pub measures : (a b : ℕ) → a < w.cards → b < w.cards → differing (get_or rows a []) (get_or rows b []) ≡ hops w a b

-- the bits of a list of rows, and the list of n rows of k bits
unfoldable pub list_bits : List (List Bool) → (c j : ℕ) → Bool
list_bits rows c j = get_or (get_or rows c []) j false

unfoldable pub row_list : (n k : ℕ) → (rows : ℕ → ℕ → Bool) → List (List Bool)
row_list n k r = tabulate n (λ c. tabulate k (r c))
