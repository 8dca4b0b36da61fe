-- The two parts are appended to zeros. Assumes nothing.
use Prim.Native.Nat.{◌*◌}
use native.Mathlib.Omega.{arith}
use Rattle.rack.proofs.Putting.{grows_as, part_counted}
use Rattle.reader.proofs.InnerFile.{inner_copied}
use Rattle.reader.proofs.read.inner_file.Goals as goal

pub returns : goal.returns
returns c =
    let p = c.args.plan in
    inner_copied p.bytes.now (4 * p.links) (omega (arith, p.sized.long)) c.new-written.ensures.start c.new-written.ensures.zeros c.put_bytes.ensures
    (grows_as (part_counted 6 (4 * p.links) p.bytes.now) c.put_bytes-2.ensures)
