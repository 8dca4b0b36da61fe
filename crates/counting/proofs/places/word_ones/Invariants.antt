-- After i bytes the sum is the ones of the lowest 8 i bits. Assumes nothing.
use mathlib.Core.Path.{◌≡◌}
use Prim.Native.Nat.{◌*◌}
use Rattle.counting.specs.Ones.{ones_in}
use Rattle.counting.proofs.places.word_ones.Given as goal

abbrev pub invariant-loop-byte : goal.invariant-loop-byte
invariant-loop-byte l = l.sum ≡ ones_in (8 * l.byte-index) l.z
