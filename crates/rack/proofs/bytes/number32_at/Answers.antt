-- Four bytes from the low one on are two numbers of 16 bits. Assumes nothing.
use mathlib.Core.Path.{◌≡◌, refl, ap}
use Prim.Native.Nat.{ℕ, ◌+◌, ◌*◌}
use native.Mathlib.Numerals.{add-one}
use native.Mathlib.Omega.{arith}
use lib.ListN.{get_or}
use Rattle.rack.specs.Buffers.{number_at, number32_at}
use Rattle.rack.proofs.bytes.number32_at.Goals as goal

pub returns : goal.returns
unfolding number_at number32_at
returns c =
    let bs = c.args.bytes.now in
    let at = c.args.at in
    let low : number_at bs at ≡ get_or bs at 0 + 256 * get_or bs (at + 1) 0 = rw add-one refl in
    let high : number_at bs (at + 2) ≡ get_or bs (at + 2) 0 + 256 * get_or bs (at + 2 + 1) 0 = rw add-one refl in
    let last : get_or bs (at + 2 + 1) 0 ≡ get_or bs (at + 3) 0 = ap (λ (i : ℕ). get_or bs i 0) (omega arith) in
    let e : number32_at bs at ≡ number_at bs at + 65536 * number_at bs (at + 2) = refl in
    omega (arith, c.from_le_bytes.ensures, low, high, last, e)
