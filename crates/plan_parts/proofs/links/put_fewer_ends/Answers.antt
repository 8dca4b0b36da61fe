-- The two parts are appended one after the other. Assumes nothing.
use Prim.Native.Nat.{◌*◌}
use Rattle.rack.proofs.Putting.{grows_then, grows_as, part_counted}
use Rattle.plan_parts.proofs.CopiedEnds.{second_counted}
use Rattle.plan_parts.proofs.links.put_fewer_ends.Goals as goal

pub returns : goal.returns
returns c =
    let a = c.args in
    grows_then (grows_as (part_counted 6 (2 * a.count) a.plan.now) c.put_bytes.ensures)
    (grows_as (second_counted a.plan.now a.m c.requires.0 a.count) c.put_bytes-2.ensures)
