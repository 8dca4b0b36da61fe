-- How a link splits the cards; columns, addresses, and embeddings in a hypercube. Assumes nothing: these are definitions.
use Rattle.std.specs.Prelude.{◌≡◌, Bool, false, not, cond, List, [], ◌∷◌, ◌++◌, ℕ, ◌<◌, ltb, eqb, length, get_or}
use Rattle.rack.specs.Lists.{differ, count, all, any, tabulate, range, same}
use Rattle.rack.specs.Wiring.{Link, Wiring}
use Rattle.rack.specs.Hops.{hops}

-- card c is nearer to the link's first end than to its second
unfoldable pub nearer_first : Wiring → Link → (c : ℕ) → Bool
nearer_first w l c = ltb (hops w c l.first) (hops w c l.second)

-- card c is in the set without card 0, of the two sets into which the link splits the cards
unfoldable pub side : Wiring → Link → (c : ℕ) → Bool
side w l c = differ (nearer_first w l c) (nearer_first w l 0)

-- the link's column: a bit for each card. In an accepted rack, links with equal columns are an edge class of Djoković and Winkler
unfoldable pub column : Wiring → Link → List Bool
column w l = tabulate w.cards (side w l)

unfoldable pub same_column : (c d : List Bool) → Bool
same_column c d = same (λ x y. not (differ x y)) c d

unfoldable pub add_column : List Bool → List (List Bool) → List (List Bool)
add_column c cs = cond (any (same_column c) cs) cs (cs ++ (c ∷ []))

unfoldable pub add_columns : Wiring → List Link → List (List Bool) → List (List Bool)
add_columns w [] cs = cs
add_columns w (l ∷ ls) cs = add_columns w ls (add_column (column w l) cs)

-- the columns of all links, each once, by their lowest link: the coordinates of the addresses
unfoldable pub columns : Wiring → List (List Bool)
columns w = add_columns w w.links []

unfoldable pub column_count : Wiring → ℕ
column_count w = length (columns w)

-- the address of card c, the node's hypercube label: bit j is its bit in column j, and 0 past the last column
unfoldable pub address : Wiring → (c j : ℕ) → Bool
address w c j = get_or (get_or (columns w) j []) c false

-- in how many of the first k places two rows of bits differ
unfoldable pub hamming : (k : ℕ) → (x y : ℕ → Bool) → ℕ
hamming k x y = count (λ j. differ (x j) (y j)) (range k)

-- rows of k bits, one for each card, that measure hops (docs/REQUIREMENTS.md: a choice with the property of demand 2):
-- an isometric embedding of the rack in the hypercube of k dimensions. Only cards and the first k places count.
abbrev pub Embedding : Wiring → (k : ℕ) → (rows : ℕ → ℕ → Bool) → Type 0
Embedding w k r = (a b : ℕ) → a < w.cards → b < w.cards → hamming k (r a) (r b) ≡ hops w a b

-- the same as a test of all pairs of cards
unfoldable pub embeds : Wiring → (k : ℕ) → (rows : ℕ → ℕ → Bool) → Bool
embeds w k r = all (λ a. all (λ b. eqb (hamming k (r a) (r b)) (hops w a b)) (range w.cards)) (range w.cards)
