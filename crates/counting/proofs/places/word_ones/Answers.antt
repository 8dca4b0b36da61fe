-- After i bytes the sum is the ones of the lowest 8 i bits. Assumes nothing.
use mathlib.Core.Path.{◌≡◌, sym, ap, ◌∙◌}
use Prim.Native.Nat.{ℕ, ◌*◌}
use native.Mathlib.Omega.{arith}
use lib.ListN.{get_or}
use mathlib.Core.List.{List}
use Rattle.counting.specs.Ones.{ones_in}
use Rattle.counting.proofs.TableRule.{ones_le_byte, ones_none, ones_le}
use Rattle.counting.proofs.places.word_ones.Goals as goal

pub loop-byte-init : goal.loop-byte-init
loop-byte-init c = sym (ones_none c.args.z)

pub overflow_add-sum : goal.overflow_add-sum
overflow_add-sum c = omega (arith, ones_le (8 * c.loop-byte.byte-index) c.args.z)

pub loop-byte-preserved : goal.loop-byte-preserved
loop-byte-preserved c =
    let l = c.loop-byte in
    let e = ap (λ (bs : List ℕ). ones_in 8 (get_or bs l.byte-index 0)) c.to_le_bytes-byte-items.ensures in
    omega (arith, l.invariant, c.byte_ones-sum.ensures.is, e, ones_le_byte c.args.z l.byte-index (omega arith))

pub returns : goal.returns
returns c =
    let l = c.loop-byte in
    let e : 8 * l.byte-index ≡ 64 = omega arith in
    let f = ap (λ (n : ℕ). ones_in n c.args.z) e in
    record {
      is = l.invariant ∙ f;
      few = omega (arith, l.invariant, f, ones_le 64 c.args.z);
    }
