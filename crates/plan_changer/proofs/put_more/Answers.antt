-- Sizes, ends, the old addresses and the new one are appended in this order, and fit. Assumes nothing.
use Rattle.std.proofs.Common.{arith, ◌+◌}
use Rattle.rack.proofs.Putting.{grown_written, grown_long}
use Rattle.plan_writer.proofs.WrittenPlan.{length_head}
use Rattle.plan_changer.proofs.ChangedBytes.{links_in, more_room, size_more, length_ends_more, length_rows, more_grown}
use Rattle.plan_changer.proofs.put_more.Goals as goal

pub put_more_ends-requires : goal.put_more_ends-requires
put_more_ends-requires c =
    let z = c.args.plan in
    let p = c.put_sizes.ensures in (
      links_in _ z.sized,
      omega (arith, c.requires.1, p.room, p.puts.place, length_head (z.cards + 1) (z.links + 1) (z.columns + 1), c.told-output),
    )

pub put_rows-requires : goal.put_rows-requires
put_rows-requires c =
    let z = c.args.plan in
    let size = c.address_size in
    let p = c.put_sizes.ensures in
    let q = c.put_more_ends.ensures in (
      omega arith,
      size.ensures.few,
      omega (
        arith,
        p.room,
        q.room,
        p.puts.place,
        q.puts.place,
        length_head (z.cards + 1) (z.links + 1) (z.columns + 1),
        length_ends_more _ z.sized c.args.card size.result size.ensures.is,
        c.told-output,
        more_room _ z.sized c.args.card size.result size.ensures.is c.requires.0 c.requires.1 size.ensures.few,
      ),
    )

pub put_row_with_one-requires : goal.put_row_with_one-requires
put_row_with_one-requires c =
    let z = c.args.plan in
    let size = c.address_size in
    let p = c.put_sizes.ensures in
    let q = c.put_more_ends.ensures in
    let r = c.put_rows.ensures in (
      c.requires.3,
      omega (
        arith,
        p.room,
        q.room,
        r.room,
        p.puts.place,
        q.puts.place,
        r.puts.place,
        length_head (z.cards + 1) (z.links + 1) (z.columns + 1),
        length_ends_more _ z.sized c.args.card size.result size.ensures.is,
        length_rows _ z.sized z.cards size.result,
        c.told-output,
        more_room _ z.sized c.args.card size.result size.ensures.is c.requires.0 c.requires.1 size.ensures.few,
        size_more _ z.sized c.args.card size.result size.ensures.is,
      ),
    )

pub returns : goal.returns
returns c =
    let size = c.address_size in
    let p = more_grown _ c.args.plan.sized c.args.card size.result size.ensures.is c.put_sizes.ensures c.put_more_ends.ensures c.put_rows.ensures
    c.put_row_with_one.ensures in
    record { bytes = grown_written c.new-written.ensures.start c.new-written.ensures.zeros p; long = grown_long c.new-written.ensures.start p }
