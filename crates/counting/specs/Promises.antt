-- What is promised of counting with the table. Each statement is proved in proofs/Promises.antt under its name. Quotations: docs/REQUIREMENTS.md.
use Rattle.std.specs.Prelude.{◌≡◌, true, List, ◌↔◌, ℕ, ◌+◌, ◌*◌, ◌/◌, ◌%◌, ◌^◌, ◌<◌, get_or}
use Rattle.std.specs.Int.Bits.{bit_xor}
use Rattle.rack.specs.Lists.{sum, tabulate}
use Rattle.rack.specs.Bits.{bits_of}
use Rattle.rack.specs.Columns.{hamming}
use Rattle.rack.specs.PlanFile.{bit_from}
use Rattle.counting.specs.Ones.{Counts, table_holds}

-- "The table's rule is established by one check of all entries": the test passes exactly if the rule holds of every byte
unfoldable pub TableRule : Type 0
TableRule = (table : List ℕ) → (table_holds table ≡ true) ↔ Counts table

-- "count them byte by byte with that table": the places in which n bytes differ are the entries at the exclusive or of the bytes, added up
unfoldable pub HammingByTable : Type 0
HammingByTable =
    (table : List ℕ) (n : ℕ) (x y : ℕ → ℕ) → Counts table → ((t : ℕ) → t < n → (x t < 256) × (y t < 256)) →
    hamming (8 * n) (bits_of x) (bits_of y) ≡ sum (tabulate n (λ t. get_or table (bit_xor (x t) (y t)) 0))

-- the same of k bits from two places of some bytes on, as addresses of k columns stand in a plan: of the last byte only k mod 8 bits count
unfoldable pub BitsByTable : Type 0
BitsByTable =
    (table bytes : List ℕ) (p q k : ℕ) → Counts table → ((i : ℕ) → get_or bytes i 0 < 256) →
    let z : ℕ → ℕ = λ t. bit_xor (get_or bytes (p + t) 0) (get_or bytes (q + t) 0) in
    hamming k (bit_from bytes p) (bit_from bytes q) ≡ sum (tabulate (k / 8) (λ t. get_or table (z t) 0)) + get_or table (z (k / 8) % 2 ^ (k % 8)) 0
