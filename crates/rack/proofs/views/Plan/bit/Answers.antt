-- The column's byte stands in the card's address. Assumes nothing.
use mathlib.Core.Path.{◌≡◌, ◌∙◌}
use Prim.Native.Nat.{◌+◌, ◌≤◌}
use native.Mathlib.Omega.{arith}
use lib.ListN.{length}
use Rattle.rack.specs.PlanFile.{address_size, address_start}
use Rattle.rack.proofs.PlanFile.{address_bit, address_counted, address_size_is}
use Rattle.rack.proofs.views.Plan.bit.Goals as goal
use Rattle.rack.proofs.views.Plan.bit.Goals.{After-address_start}

-- the card's address stands inside the plan
known : (c : After-address_start) → let p = c.args.self in
    (c.address_start.result ≡ address_start p.bytes.now c.args.c) × (c.address_start.result + address_size p.columns ≤ length p.bytes.now)
known c =
    let p = c.args.self in
    address_counted p.bytes.now p.cards p.links p.columns p.sized c.args.c _ c.requires.0 c.address_start.ensures.is

pub bit_at-requires : goal.bit_at-requires
bit_at-requires c = omega (arith, c.requires.1, address_size_is c.args.self.columns, known (goal.at.bit_at-requires c).After-address_start)

pub returns : goal.returns
returns c = let a = c.args in c.bit_at.ensures ∙ address_bit a.self.bytes.now a.c _ a.j (known (goal.at.returns c).After-address_start).0
