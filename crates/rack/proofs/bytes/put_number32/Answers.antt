-- Four bytes are written at once. Assumes nothing.
use mathlib.Core.Path.{◌≡◌, refl, ◌∙◌}
use Prim.Native.Nat.{◌/◌, ◌%◌}
use native.Mathlib.Omega.{arith}
use Rattle.rack.specs.Buffers.{two_bytes, four_bytes}
use Rattle.rack.proofs.Appending.{appends_part}
use Rattle.rack.proofs.bytes.put_number32.Goals as goal

pub returns : goal.returns
unfolding two_bytes four_bytes
returns c =
    let v = c.args.v in
    let third : v / 65536 / 256 % 256 ≡ v / 16777216 % 256 = omega arith in
    let e : c.copy_from_slice.new.self ≡ four_bytes v = c.copy_from_slice.ensures.after ∙ c.to_le_bytes.ensures ∙ rw third refl in
    rw e (appends_part c.args.at _ c.args.output.now (four_bytes v) (omega arith) (omega arith))
