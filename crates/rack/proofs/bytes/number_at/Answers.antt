-- Two bytes from the low one on are the number that the definition adds up. Assumes nothing.
use mathlib.Core.Path.{◌≡◌, refl}
use Prim.Native.Nat.{◌+◌, ◌*◌}
use native.Mathlib.Numerals.{add-one}
use native.Mathlib.Omega.{arith}
use lib.ListN.{get_or}
use Rattle.rack.specs.Buffers.{number_at}
use Rattle.rack.proofs.bytes.number_at.Goals as goal

pub returns-clause-is : goal.returns-clause-is
unfolding number_at
returns-clause-is c =
    let bs = c.args.bytes.now in
    let at = c.args.at in
    let e : number_at bs at ≡ get_or bs at 0 + 256 * get_or bs (at + 1) 0 = rw add-one refl in
    omega (arith, c.from.ensures, c.from_le_bytes.ensures, e)
