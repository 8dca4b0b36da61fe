-- The loop's invariant: the sum is the differing places of the bytes passed. Assumes nothing.
use mathlib.Core.Path.{◌≡◌}
use Prim.Native.Nat.{◌*◌}
use lib.ListN.{length}
use Rattle.rack.specs.Columns.{hamming}
use Rattle.rack.specs.PlanFile.{bit_from}
use Rattle.counting.proofs.places.bytes_hamming.Given as goal

abbrev pub invariant-loop-p : goal.invariant-loop-p
invariant-loop-p l = l.sum ≡ hamming (8 * length l.yielded) (bit_from l.x 0) (bit_from l.y 0)
