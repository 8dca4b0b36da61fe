-- The bytes are written in their part. Assumes nothing.
use mathlib.Core.Path.{◌≡◌, refl}
use Prim.Native.Nat.{◌+◌, ◌-◌}
use native.Mathlib.Omega.{arith}
use lib.ListN.{length}
use Rattle.rack.proofs.Appending.{appends_part}
use Rattle.rack.proofs.Putting.{length_put_mid}
use Rattle.rack.proofs.output.Output.put_bytes.Goals as goal

pub returns : goal.returns
returns c =
    let t = c.args.self.now in
    let ys = c.args.bytes.now in
    let n : t.length + length ys - t.length ≡ length ys = omega arith in
    rw (n, c.copy_each.ensures) (record {
      same = refl;
      room = length_put_mid t.length _ t.bytes.now ys refl c.requires;
      puts = record { place = refl; adds = appends_part t.length _ t.bytes.now ys refl c.requires };
    })
