-- Each row is a part of its address, and zeros where it is wider. Assumes nothing.
use mathlib.Core.Path.{refl, sym, ap, ◌∙◌}
use native.Mathlib.Omega.{arith}
use lib.ListN.{length}
use Rattle.rack.specs.Lists.{tabulate}
use Rattle.rack.proofs.Tables.{blocks_snoc}
use Rattle.rack.proofs.Putting.{grows_then, grows_as, part_counted}
use Rattle.plan_writer.proofs.WrittenPlan.{address_room, length_rows}
use Rattle.reader.proofs.Addresses.{address_counted}
use Rattle.reader.proofs.Parts.{length_part}
use Rattle.plan_parts.specs.Parts.{row_byte}
use Rattle.plan_parts.proofs.AddressRows.{row_parts}
use Rattle.plan_parts.proofs.rows.put_rows.Goals as goal

pub put_bytes-requires : goal.put_bytes-requires
put_bytes-requires c =
    let a = c.args in
    let l = c.loop-a in
    let p = l.invariant in
    let z = address_counted _ a.plan.sized l.a _ _ (omega arith) refl c.address_start-start.ensures.is in
    omega (
      arith,
      p.room,
      p.puts.place,
      c.min-shared.ensures,
      length_rows l.a a.wide (row_byte a.plan.bytes.now),
      address_room l.a a.count a.wide (omega arith),
      ap length (part_counted c.address_start-start.result c.min-shared.result a.plan.bytes.now)
          ∙ length_part c.address_start-start.result c.min-shared.result a.plan.bytes.now (omega (arith, z.1, c.min-shared.ensures, c.address_size.ensures.is)),
    )

pub put_zeros-requires : goal.put_zeros-requires
put_zeros-requires c =
    let a = c.args in
    let l = c.loop-a in
    let p = l.invariant in
    let q = grows_as (part_counted c.address_start-start.result c.min-shared.result a.plan.bytes.now) c.put_bytes.ensures in
    let z = address_counted _ a.plan.sized l.a _ _ (omega arith) refl c.address_start-start.ensures.is in
    omega (
      arith,
      p.room,
      q.room,
      p.puts.place,
      q.puts.place,
      c.min-shared.ensures,
      length_rows l.a a.wide (row_byte a.plan.bytes.now),
      address_room l.a a.count a.wide (omega arith),
      length_part c.address_start-start.result c.min-shared.result a.plan.bytes.now (omega (arith, z.1, c.min-shared.ensures, c.address_size.ensures.is)),
    )

pub loop-a-preserved : goal.loop-a-preserved
loop-a-preserved c =
    let a = c.args in
    let l = c.loop-a in
    let f = row_byte a.plan.bytes.now in
    let q = grows_then (grows_as (part_counted c.address_start-start.result c.min-shared.result a.plan.bytes.now) c.put_bytes.ensures) c.put_zeros.ensures in
    let e = row_parts a.plan.bytes.now a.plan.sized l.a (omega arith) c.address_start-start.result a.wide c.min-shared.result c.address_start-start.ensures.is
    (omega (arith, c.min-shared.ensures, c.address_size.ensures.is)) in
    grows_as (sym (blocks_snoc l.a (λ i. tabulate a.wide (f i)))) (grows_then l.invariant (grows_as e q))
