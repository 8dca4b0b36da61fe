-- Two bytes are written at once. Assumes nothing.
use mathlib.Core.Path.{◌≡◌, refl, ◌∙◌}
use Prim.Native.Nat.{◌/◌, ◌%◌}
use native.Mathlib.Omega.{arith}
use Rattle.rack.specs.Buffers.{two_bytes}
use Rattle.rack.proofs.Appending.{appends_part}
use Rattle.rack.proofs.bytes.put_number.Goals as goal

pub returns : goal.returns
unfolding two_bytes
returns c =
    let v = c.args.v in
    let low : v % 65536 % 256 ≡ v % 256 = omega arith in
    let high : v % 65536 / 256 % 256 ≡ v / 256 % 256 = omega arith in
    let e : c.copy_from_slice.new.self ≡ two_bytes v = c.copy_from_slice.ensures.after ∙ c.to_le_bytes-bytes.ensures ∙ rw (low, high) refl in
    rw e (appends_part c.args.at _ c.args.output.now (two_bytes v) (omega arith) (omega arith))
