-- The loop's invariant: the cards written are those left and the present one, and behind those left stands what is still to be walked.
-- Each step lessens the differing places, so there is room for its card. Assumes nothing.
use Prim.Native.Nat.{◌-◌}
use Rattle.forwarder.specs.Forwarding.{step_seen}
use Rattle.forwarder.proofs.Routes.{OnTheWay}
use Rattle.forwarder.proofs.walk.walk_between.Given as goal

abbrev pub invariant-loop-next : goal.invariant-loop-next
invariant-loop-next l = OnTheWay l.counted.plan.bytes.now l.a l.b l.met l.taken (step_seen l.next)

abbrev pub decreases-loop-next : goal.decreases-loop-next
decreases-loop-next l = 256 - l.taken
