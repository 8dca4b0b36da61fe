-- The sum is a remainder. Assumes nothing.
use Prim.Native.Nat.{◌<◌}
use Rattle.made_racks.proofs.say.sum.Given as goal

abbrev pub invariant-loop-x : goal.invariant-loop-x
invariant-loop-x g l = l.sum < 65521
