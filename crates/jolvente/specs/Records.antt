-- The lent bytes of the C calls: records of four numbers of 32 bits, and cards of 16 bits. Assumes nothing: these are definitions.
use Rattle.std.specs.Prelude.{List, ◌++◌, ℕ, ◌*◌, length, get_or}
use Rattle.rack.specs.Lists.{tabulate, blocks}
use Rattle.rack.specs.Buffers.{number_at, number32_at, two_bytes, four_bytes}
use Rattle.forwarder.specs.Calls.{lent_met}
use Rattle.forwarder.specs.declared.walk.Tally.{Tally}
use Rattle.forwarder.specs.Calls.{Walked}

abbrev pub lent_record : ℕ
lent_record = 16

-- two bytes for each card
abbrev pub lent_met_bytes : ℕ
lent_met_bytes = 512

-- a record's four numbers
unfoldable pub record_bytes : (x y z u : ℕ) → List ℕ
record_bytes x y z u = four_bytes x ++ four_bytes y ++ four_bytes z ++ four_bytes u

-- cards as numbers of 16 bits
unfoldable pub card_bytes : List ℕ → List ℕ
card_bytes cs = blocks (length cs) (λ i. two_bytes (get_or cs i 0))

-- WHAT STANDS IN THEM: the cards, the counts of a walk's record, a walk's answer
unfoldable pub cards_in : List ℕ → List ℕ
cards_in bs = tabulate lent_met (λ i. number_at bs (2 * i))

unfoldable pub counts_in : List ℕ → Tally
counts_in bs = record { frames = number32_at bs 8; hops = number32_at bs 12 }

unfoldable pub walked_in : (number : ℕ) → List ℕ → Walked
walked_in x bs = record { number = x; arrived = number32_at bs 0; hops = number32_at bs 4; tally = counts_in bs }
