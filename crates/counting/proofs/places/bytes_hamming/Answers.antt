-- The loop's invariant: the sum is the differing places of the bytes passed. Assumes nothing.
use native.Mathlib.Omega.{arith}
use mathlib.Core.Path.{◌≡◌, sym, ap, ◌∙◌}
use Prim.Native.Nat.{ℕ, ◌+◌, ◌*◌, ◌<◌}
use lib.ListN.{length, length-append}
use Rattle.std.proofs.Common.{rules}
use Rattle.std.proofs.lemmas.Slice.Zip.{zip_turn, zip_end}
use Rattle.rack.specs.Columns.{hamming}
use Rattle.rack.specs.PlanFile.{bit_from}
use Rattle.rack.proofs.Hamming.{hamming_none, hamming_le}
use Rattle.counting.proofs.Bytes.{byte_more}
use Rattle.counting.proofs.places.bytes_hamming.Goals as goal
use Rattle.counting.proofs.places.bytes_hamming.Goals.{After-byte_hamming-sum}

-- one byte more
added : (c : After-byte_hamming-sum) → let l = c.loop-p in
    (length l.yielded < length c.args.x.now)
    × (l.sum + c.byte_hamming-sum.result ≡ hamming (8 * (length l.yielded + 1)) (bit_from c.args.x.now 0) (bit_from c.args.y.now 0))
added c =
    let a = c.args in
    let l = c.loop-p in
    let t = zip_turn a.x.now a.y.now l.yielded c.into_iter-p-iterator.result c.loop-p.p-iterator c.next.new.self _ (search rules) (search rules) l.yielded_by _ c.in-Some.is c.next.ensures.steps in
    (t.0, byte_more a.x.now a.y.now (length l.yielded) l.sum _ _ _ l.invariant (t.2 0) (t.3 0) c.byte_hamming-sum.ensures.is)

pub loop-p-init : goal.loop-p-init
loop-p-init c = sym (hamming_none _ _)

pub overflow_add-sum : goal.overflow_add-sum
overflow_add-sum c =
    let l = c.loop-p in
    omega (arith, added c, hamming_le (8 * (length l.yielded + 1)) (bit_from c.args.x.now 0) (bit_from c.args.y.now 0))

pub loop-p-preserved : goal.loop-p-preserved
loop-p-preserved c = simp length-append (added c).1

pub returns : goal.returns
returns c =
    let a = c.args in
    let x = bit_from a.x.now 0 in
    let y = bit_from a.y.now 0 in
    let n = zip_end a.x.now a.y.now c.loop-p.yielded c.into_iter-p-iterator.result c.loop-p.p-iterator c.next.new.self _ (search rules) (search rules) c.loop-p.yielded_by c.in-None.is c.next.ensures.steps in
    let e : length c.loop-p.yielded ≡ length a.x.now = omega (arith, n) in
    let f = c.loop-p.invariant ∙ ap (λ (t : ℕ). hamming (8 * t) x y) e in
    record {
      is = f;
      few = omega (arith, f, hamming_le (8 * length a.x.now) x y);
    }
