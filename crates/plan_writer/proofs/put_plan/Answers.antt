-- Sizes, ends and addresses are appended in this order, and fit. Assumes nothing.
use Prim.Native.Nat.{◌*◌}
use native.Mathlib.Omega.{arith}
use Rattle.rack.proofs.Putting.{grown_written, grown_long}
use Rattle.plan_writer.proofs.WrittenPlan.{addresses_room, length_head, length_pairs, plan_grown}
use Rattle.plan_writer.proofs.put_plan.Goals as goal

pub put_ends-requires : goal.put_ends-requires
put_ends-requires c =
    let z = c.args in
    let p = c.put_sizes.ensures in
    omega (arith, p.room, p.puts.place, length_head z.file.cards z.file.links z.k, c.told-output, z.file.sizes.few_links)

pub put_addresses-requires : goal.put_addresses-requires
put_addresses-requires c =
    let z = c.args in
    let sizes = z.file.sizes in
    let few = c.address_size.ensures.few in
    let p = c.put_sizes.ensures in
    let q = c.put_ends.ensures in (
      sizes.few,
      few,
      omega (
        arith,
        p.room,
        q.room,
        p.puts.place,
        q.puts.place,
        length_head z.file.cards z.file.links z.k,
        length_pairs z.file.bytes.now (2 * z.file.links),
        c.told-output,
        sizes.few_links,
        addresses_room z.file.cards _ sizes.few few,
      ),
    )

pub returns : goal.returns
returns c =
    let z = c.args in
    let p = plan_grown z.file.bytes.now z.words.now z.file.cards z.file.links z.k z.file.sizes _ c.address_size.ensures.is c.put_sizes.ensures
    c.put_ends.ensures c.put_addresses.ensures in
    record { bytes = grown_written c.new-written.ensures.start c.new-written.ensures.zeros p; long = grown_long c.new-written.ensures.start p }
