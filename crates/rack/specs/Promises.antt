-- What is promised of wirings, hops, columns and embeddings, each proved in proofs/Promises.antt under its name. Quotations: docs/REQUIREMENTS.md.
use Rattle.std.specs.Prelude.{◌≡◌, Bool, true, false, ◌⊎◌, ◌↔◌, ◌≢◌, List, ℕ, suc, ◌+◌, ◌*◌, ◌≤◌, ◌<◌, ltb, length, take}
use Rattle.rack.specs.Lists.{all, count}
use Rattle.rack.specs.Wiring.{Wiring, link_count, link_at, joins, linked}
use Rattle.rack.specs.Hops.{hops, is_path, connected}
use Rattle.rack.specs.Columns.{columns, column_count, address, Embedding}
use Rattle.rack.specs.Refusals.{most_parallel, links_refusal, well_formed, parity_refusal, rack_refusal}
use Rattle.rack.specs.Buffers.{number_at}
use Rattle.rack.specs.WiringFile.{file_wiring, sizes_fault, form_refusal, file_refusal, file_bytes}
use Rattle.rack.specs.Embeddings.{reduced_columns, times, Choice, list_bits, row_list}

-- "Hops between two cards are the fewest links on a way from one to the other": no path has fewer, one has as many,
-- and the number of cards says that there is none
unfoldable pub HopsFewest : Type 0
HopsFewest =
    (w : Wiring) (a b : ℕ) → a < w.cards →
    ((cs : List ℕ) → is_path w a cs b ≡ true → hops w a b ≤ length cs)
    × (hops w a b < w.cards → ((cs : List ℕ) × (is_path w a cs b ≡ true) × (length cs ≡ hops w a b)))
    × (hops w a b ≡ w.cards → (cs : List ℕ) → is_path w a cs b ≡ false)
    × (hops w a b ≤ w.cards)

-- "Some card can't be reached from card 0", or else each card from each
unfoldable pub ConnectedPaths : Type 0
ConnectedPaths =
    (w : Wiring) →
    (connected w ≡ true → (a b : ℕ) → a < w.cards → b < w.cards → (cs : List ℕ) × (is_path w a cs b ≡ true))
    × (((c : ℕ) → c < w.cards → (cs : List ℕ) × (is_path w 0 cs c ≡ true)) → connected w ≡ true)

-- "No card is at equal distance" from a link's ends, "in a connected rack without odd loops" (Eppstein, lemmas 3 and 4)
unfoldable pub NoTies : Type 0
NoTies =
    (w : Wiring) (p q c : ℕ) → well_formed w ≡ true → connected w ≡ true → (parity_refusal w).number ≡ 0 →
    linked w p q ≡ true → c < w.cards → hops w c p ≢ hops w c q

-- "Card 0 is all zeros"
unfoldable pub CardZeroZeros : Type 0
CardZeroZeros = (w : Wiring) (j : ℕ) → address w 0 j ≡ false

-- "A rack is accepted exactly if, for each pair of cards, the addresses differ in as many places as there are hops"
unfoldable pub AddressesEmbed : Type 0
AddressesEmbed = (w : Wiring) → (rack_refusal w).number ≡ 0 → Embedding w (column_count w) (address w)

-- "For every well-formed, connected wiring, 'no addresses' is said exactly when no bit rows of any length have that property"
unfoldable pub NoAddresses : Type 0
NoAddresses =
    (w : Wiring) → well_formed w ≡ true → connected w ≡ true →
    (((rack_refusal w).number ≡ 10) ⊎ ((rack_refusal w).number ≡ 11)) ↔ ((k : ℕ) (r : ℕ → ℕ → Bool) → Embedding w k r → ⊥)

-- "Every choice that has it is the planner's own up to the order of columns, complements and constant columns":
-- each column occurs as often in the one as in the other
unfoldable pub EmbeddingUnique : Type 0
EmbeddingUnique =
    (w : Wiring) (k : ℕ) (r : ℕ → ℕ → Bool) → well_formed w ≡ true → connected w ≡ true → Embedding w k r →
    (length (reduced_columns w.cards k r) ≡ column_count w)
    × ((c : List Bool) → times c (reduced_columns w.cards k r) ≡ times c (columns w))

-- "Gives each card a row of bits, all rows equally long, of whatever length, 0 too": lists of such rows and embeddings are the same
-- choices, bit by bit
unfoldable pub ChoicesAsRows : Type 0
ChoicesAsRows =
    (w : Wiring) (k : ℕ) →
    ((rs : List (List Bool)) → Choice w k rs → Embedding w k (list_bits rs) × (row_list w.cards k (list_bits rs) ≡ rs))
    × ((r : ℕ → ℕ → Bool) → Embedding w k r →
    Choice w k (row_list w.cards k r) × ((c j : ℕ) → c < w.cards → j < k → list_bits (row_list w.cards k r) c j ≡ r c j))

-- ".. the planner's k columns in some order, each once"
unfoldable pub ColumnsOnce : Type 0
ColumnsOnce = (w : Wiring) (c : List Bool) → times c (columns w) ≤ 1

-- "k is at most n-1 in an accepted rack"
unfoldable pub FewColumns : Type 0
FewColumns = (w : Wiring) → well_formed w ≡ true → (rack_refusal w).number ≡ 0 → suc (column_count w) ≤ w.cards

-- 2 to 5: none applies exactly if the counts are in their ranges and give the file's length
unfoldable pub SizesInRange : Type 0
SizesInRange =
    (bs : List ℕ) →
    (sizes_fault bs ≡ 0)
    ↔ ((1 ≤ number_at bs 0) × (number_at bs 0 ≤ 256) × (number_at bs 2 ≤ 2048) × (length bs ≡ 4 + 4 * number_at bs 2))

-- 6 to 8: none applies exactly if each link joins two different cards and fewer earlier links join them than may
unfoldable pub LinksJoin : Type 0
LinksJoin =
    (w : Wiring) →
    ((links_refusal w).number ≡ 0)
    ↔ ((i : ℕ) → i < link_count w →
    ((link_at w i).first < w.cards) × ((link_at w i).second < w.cards) × ((link_at w i).first ≢ (link_at w i).second)
    × (count (joins (link_at w i).first (link_at w i).second) (take i w.links) < most_parallel))

-- 10: in a connected rack exactly if some link's ends have equal hops from card 0
unfoldable pub OddLoop : Type 0
OddLoop =
    (w : Wiring) → connected w ≡ true →
    ((rack_refusal w).number ≡ 10)
    ↔ ((i : ℕ) × (i < link_count w) × (hops w 0 (link_at w i).first ≡ hops w 0 (link_at w i).second))

-- "A wiring file is well formed exactly if none of 2 to 8 applies": it is then refused as its wiring is, and its wiring gives it back
unfoldable pub FileAsWiring : Type 0
FileAsWiring =
    (bs : List ℕ) → (form_refusal bs).number ≡ 0 →
    (well_formed (file_wiring bs) ≡ true) × (file_refusal bs ≡ rack_refusal (file_wiring bs))
    × (all (λ b. ltb b 256) bs ≡ true → file_bytes (file_wiring bs) ≡ bs)
