-- Plan files: where the sizes, the wiring and the addresses stand in their bytes. Assumes nothing: these are definitions.
use Rattle.std.specs.Prelude.{◌≡◌, Bool, List, ℕ, ◌+◌, ◌*◌, ◌/◌, ◌≤◌, ◌<◌, get_or, length, take, drop}
use Rattle.std.specs.Borrow.{Bor}
use Rattle.rack.specs.Limits.{most_cards, most_links, most_columns}
use Rattle.rack.specs.Bits.{bits_of}
use Rattle.rack.specs.Wiring.{Wiring}
use Rattle.rack.specs.Buffers.{SliceIs, number_at}
use Rattle.rack.specs.WiringFile.{wiring_at}
use Rattle.rack.specs.Columns.{hamming}

-- the three sizes, n, m and k
abbrev pub plan_cards : List ℕ → ℕ
plan_cards ps = number_at ps 0

abbrev pub plan_links : List ℕ → ℕ
plan_links ps = number_at ps 2

abbrev pub plan_columns : List ℕ → ℕ
plan_columns ps = number_at ps 4

-- the wiring inside: the ends of the links follow the sizes
abbrev pub plan_wiring : List ℕ → Wiring
plan_wiring ps = wiring_at 6 ps

-- B, the bytes of an address of k columns
unfoldable pub address_size : (k : ℕ) → ℕ
address_size k = (k + 7) / 8

-- where the addresses begin, behind the ends of m links
abbrev pub addresses_start : (m : ℕ) → ℕ
addresses_start m = 6 + 4 * m

-- where the address of card c begins
abbrev pub address_start : List ℕ → (c : ℕ) → ℕ
address_start ps c = addresses_start (plan_links ps) + c * address_size (plan_columns ps)

-- n cards, m links and k columns, in their ranges, and the length that they give
pub record Sized (ps : List ℕ) (n m k : ℕ) : Type 0 where
  pub cards : n ≡ plan_cards ps
  pub links : m ≡ plan_links ps
  pub columns : k ≡ plan_columns ps
  pub some : 1 ≤ n
  pub few : n ≤ most_cards
  pub few_links : m ≤ most_links
  pub few_columns : k ≤ most_columns
  pub long : length ps ≡ addresses_start m + n * address_size k

-- bit j of the bytes from a place on
unfoldable pub bit_from : List ℕ → (at j : ℕ) → Bool
bit_from ps at j = bits_of (λ t. get_or ps (at + t) 0) j

-- bit j of card c's address, and the differing places of two addresses: only the first k columns count
unfoldable pub plan_bit : List ℕ → (c j : ℕ) → Bool
plan_bit ps c j = bit_from ps (address_start ps c) j

-- the address of card c as that part of the plan's own bytes
pub record AddressIs (ps : Bor (List ℕ)) (c : ℕ) (r : Bor (List ℕ)) : Type 0 where
  pub part : SliceIs (ps.ref_ptr.0, address_start ps.now c + ps.ref_ptr.1) (take (address_size (plan_columns ps.now)) (drop (address_start ps.now c) ps.now)) r
  pub long : length r.now ≡ address_size (plan_columns ps.now)
  pub bits : (j : ℕ) → j < plan_columns ps.now → bit_from r.now 0 j ≡ plan_bit ps.now c j

unfoldable pub plan_hamming : List ℕ → (a b : ℕ) → ℕ
plan_hamming ps a b = hamming (plan_columns ps) (plan_bit ps a) (plan_bit ps b)
