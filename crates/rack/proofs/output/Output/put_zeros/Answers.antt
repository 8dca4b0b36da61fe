-- The zeros stand behind what is written. Assumes nothing.
use mathlib.Core.Path.{refl, sym, ap}
use Prim.Native.Nat.{ℕ, ◌+◌}
use lib.ListN.{length-replicate}
use Rattle.rack.proofs.Putting.{appends_zeros}
use Rattle.rack.proofs.output.Output.put_zeros.Goals as goal

pub returns : goal.returns
returns c =
    let t = c.args.self.now in
    let z = c.args.count in
    record {
      same = refl;
      room = refl;
      puts = record { place = ap (λ (n : ℕ). t.length + n) (sym (length-replicate z 0)); adds = appends_zeros t.length z t.bytes.now c.requires };
    }
