-- The whole bytes are copied, and the byte of the new column is put behind them. Assumes nothing.
use Rattle.std.proofs.Common.{◌/◌, refl, arith}
use Rattle.rack.proofs.Putting.{grows_then, grows_as, part_counted}
use Rattle.plan_parts.proofs.AddressRows.{row_one_parts}
use Rattle.reader.proofs.Addresses.{address_counted}
use Rattle.plan_parts.proofs.rows.put_row_with_one.Goals as goal

pub slice_bounds-put_bytes-end : goal.slice_bounds-put_bytes-end
slice_bounds-put_bytes-end c =
    let z = address_counted _ c.args.plan.sized c.args.a _ _ c.requires.0 refl c.address_start-start.ensures.is in
    omega (arith, z.1, z.2)

pub byte_with_one-requires : goal.byte_with_one-requires
byte_with_one-requires c =
    let z = address_counted _ c.args.plan.sized c.args.a _ _ c.requires.0 refl c.address_start-start.ensures.is in
    (omega arith, λ n. omega (arith, z.1, z.2))

pub returns : goal.returns
returns c =
    let p = c.args.plan in
    grows_as (row_one_parts p.bytes.now p.sized c.args.a c.requires.0 c.address_start-start.result _ c.address_start-start.ensures.is c.byte_with_one.ensures)
    (grows_then (grows_as (part_counted c.address_start-start.result (p.columns / 8) p.bytes.now) c.put_bytes.ensures) c.put_byte.ensures)
