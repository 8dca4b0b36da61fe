-- Stuck changes no count; an arrived frame raises both, or is refused where one would pass its limit. Assumes nothing.
use native.Mathlib.Omega.{arith}
use Rattle.forwarder.proofs.Answers.{counted_stuck, counted_arrived, counted_full}
use Rattle.forwarder.proofs.walk.counted.Goals as goal
use Rattle.forwarder.proofs.walk.counted.Goals.{then-tally-eq-MOST_TRAFFIC-via-then-tally-eq-MOST_TRAFFIC, then-tally-eq-MOST_TRAFFIC-via-else-tally-eq-MOST_TRAFFIC+then-tally-hops}

pub returns-then-not-arrived : goal.returns-then-not-arrived
returns-then-not-arrived c = rw c.if-not-arrived.true (counted_stuck _ _)

pub returns-then-tally-eq-MOST_TRAFFIC : goal.returns-then-tally-eq-MOST_TRAFFIC
returns-then-tally-eq-MOST_TRAFFIC c =
    rw c.if-not-arrived.false (counted_full _ _ (λ can.
    elim c.then-tally-eq-MOST_TRAFFIC.branch [
      | then-tally-eq-MOST_TRAFFIC-via-then-tally-eq-MOST_TRAFFIC w ↦ omega arith
      | then-tally-eq-MOST_TRAFFIC-via-else-tally-eq-MOST_TRAFFIC+then-tally-hops w ↦ omega arith
    ]))

pub returns : goal.returns
returns c = rw c.if-not-arrived.false (counted_arrived _ _ (omega arith, omega arith))
