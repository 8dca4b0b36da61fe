-- The plan file that the planner writes for a wiring. Assumes nothing: these are definitions.
use Rattle.std.specs.Prelude.{Bool, List, ◌++◌, ℕ, ◌+◌, ◌*◌}
use Rattle.rack.specs.Lists.{tabulate, blocks}
use Rattle.rack.specs.Bits.{bits_value}
use Rattle.rack.specs.Wiring.{Wiring, link_count}
use Rattle.rack.specs.Buffers.{two_bytes}
use Rattle.rack.specs.WiringFile.{end_bytes}
use Rattle.rack.specs.Columns.{column_count, address}
use Rattle.rack.specs.PlanFile.{address_size}

-- column j is bit j mod 8 of byte j / 8
unfoldable pub address_bytes : (k : ℕ) → (row : ℕ → Bool) → List ℕ
address_bytes k row = tabulate (address_size k) (λ t. bits_value 8 (λ i. row (8 * t + i)))

-- n, m, k, the ends of the links, the addresses
unfoldable pub plan_bytes : Wiring → List ℕ
plan_bytes w =
    two_bytes w.cards ++ two_bytes (link_count w) ++ two_bytes (column_count w) ++ end_bytes w
    ++ blocks w.cards (λ c. address_bytes (column_count w) (address w c))
