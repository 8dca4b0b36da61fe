-- Sizes, ends and addresses are appended in this order, and fit. Assumes nothing.
use Rattle.std.proofs.Common.{arith, ◌-◌}
use Rattle.rack.proofs.Putting.{grown_written, grown_long}
use Rattle.plan_writer.proofs.WrittenPlan.{addresses_room, length_head}
use Rattle.plan_changer.proofs.ChangedBytes.{links_in, length_ends_less, fewer_grown}
use Rattle.plan_changer.proofs.put_fewer.Goals as goal

pub put_fewer_ends-requires : goal.put_fewer_ends-requires
put_fewer_ends-requires c =
    let z = c.args.plan in
    let p = c.put_sizes.ensures in (
      links_in _ z.sized,
      omega arith,
      omega (arith, z.sized.few_links, p.room, p.puts.place, length_head (z.cards - 1) (z.links - 1) (z.columns - 1), c.told-output),
    )

pub put_rows-requires : goal.put_rows-requires
put_rows-requires c =
    let z = c.args.plan in
    let size = c.address_size in
    let p = c.put_sizes.ensures in
    let q = c.put_fewer_ends.ensures in (
      omega arith,
      size.ensures.few,
      omega (
        arith,
        z.sized.few_links,
        p.room,
        q.room,
        p.puts.place,
        q.puts.place,
        length_head (z.cards - 1) (z.links - 1) (z.columns - 1),
        length_ends_less _ z.sized size.result size.ensures.is,
        c.told-output,
        addresses_room (z.cards - 1) size.result (omega (arith, z.sized.few)) size.ensures.few,
      ),
    )

pub returns : goal.returns
returns c =
    let size = c.address_size in
    let p = fewer_grown _ c.args.plan.sized size.result size.ensures.is c.put_sizes.ensures c.put_fewer_ends.ensures c.put_rows.ensures in
    record { bytes = grown_written c.new-written.ensures.start c.new-written.ensures.zeros p; long = grown_long c.new-written.ensures.start p }
