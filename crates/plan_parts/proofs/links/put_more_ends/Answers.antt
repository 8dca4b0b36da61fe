-- The two parts are appended, each with an end of the new link behind it. Assumes nothing.
use mathlib.Core.Path.{ap, ◌∙◌}
use Prim.Native.Nat.{◌*◌}
use native.Mathlib.Omega.{arith}
use lib.ListN.{length}
use Rattle.rack.proofs.WiringFile.{length_two_bytes}
use Rattle.rack.proofs.Putting.{grows_then, grows_as, part_counted}
use Rattle.plan_parts.proofs.CopiedEnds.{length_first_ends, length_second_ends, second_counted}
use Rattle.plan_parts.proofs.links.put_more_ends.Goals as goal

pub put_bytes-requires-2 : goal.put_bytes-requires-2
put_bytes-requires-2 c =
    let a = c.args in
    let z = c.requires.0 in
    let p = grows_as (part_counted 6 (2 * a.m) a.plan.now) c.put_bytes.ensures in
    let q = c.put_number.ensures in
    omega (
      arith,
      c.requires.1,
      p.room,
      q.room,
      p.puts.place,
      q.puts.place,
      length_first_ends a.plan.now a.m z a.m (omega arith),
      length_two_bytes a.card,
      ap length (second_counted a.plan.now a.m z a.m) ∙ length_second_ends a.plan.now a.m z a.m (omega arith),
    )

pub put_number-requires-2 : goal.put_number-requires-2
put_number-requires-2 c =
    let a = c.args in
    let z = c.requires.0 in
    let p = grows_as (part_counted 6 (2 * a.m) a.plan.now) c.put_bytes.ensures in
    let q = c.put_number.ensures in
    let r = grows_as (second_counted a.plan.now a.m z a.m) c.put_bytes-2.ensures in
    omega (
      arith,
      c.requires.1,
      p.room,
      q.room,
      r.room,
      p.puts.place,
      q.puts.place,
      r.puts.place,
      length_first_ends a.plan.now a.m z a.m (omega arith),
      length_two_bytes a.card,
      length_second_ends a.plan.now a.m z a.m (omega arith),
    )

pub returns : goal.returns
returns c =
    let a = c.args in
    grows_then
    (grows_then (grows_then (grows_as (part_counted 6 (2 * a.m) a.plan.now) c.put_bytes.ensures) c.put_number.ensures)
    (grows_as (second_counted a.plan.now a.m c.requires.0 a.m) c.put_bytes-2.ensures))
    c.put_number-2.ensures
