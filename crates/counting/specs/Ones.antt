-- Ones of a number, and a table of the ones in each byte. Assumes nothing: these are definitions.
use Rattle.std.specs.Prelude.{◌≡◌, Bool, List, ℕ, ◌<◌, eqb, get_or}
use Rattle.rack.specs.Lists.{all, count, range}
use Rattle.rack.specs.Bits.{number_bit}

-- the ones among the lowest n bits of z
unfoldable pub ones_in : (n z : ℕ) → ℕ
ones_in n z = count (number_bit z) (range n)

-- the table's rule: its entry for a byte is the ones in that byte
pub record Counts (table : List ℕ) : Type 0 where
  pub ones : (z : ℕ) → z < 256 → get_or table z 0 ≡ ones_in 8 z

-- the same as one test of all 256 entries
unfoldable pub table_holds : (table : List ℕ) → Bool
table_holds table = all (λ z. eqb (get_or table z 0) (ones_in 8 z)) (range 256)
