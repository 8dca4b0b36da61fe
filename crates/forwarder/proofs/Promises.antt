-- The promises of specs/Promises.antt, proved. Assumes nothing.
use Rattle.reader.proofs.Promises.{read_measured}
use Rattle.forwarder.specs.Promises.{StepFirst, StepLocal, StepCallLocal, WalkEnds, FrameArrives, WalkArrives, WalkFull, StuckUncounted}
use Rattle.forwarder.proofs.Stepping
use Rattle.forwarder.proofs.StepLocal
use Rattle.forwarder.proofs.Walking
use Rattle.forwarder.proofs.Delivery
use Rattle.forwarder.proofs.Arrival

pub step_first : StepFirst
step_first = Stepping.step_first

pub step_local : StepLocal
step_local = StepLocal.step_local

pub walk_ends : WalkEnds
walk_ends = Walking.walk_ends

pub frame_arrives : FrameArrives
unfolding FrameArrives
frame_arrives ps a b h ha hb = Delivery.frame_arrives ps (read_measured ps h) a b ha hb

pub step_call_local : StepCallLocal
step_call_local = StepLocal.step_call_local

pub walk_arrives : WalkArrives
walk_arrives = Arrival.walk_arrives

pub walk_full : WalkFull
walk_full = Arrival.full_refused

pub stuck_uncounted : StuckUncounted
stuck_uncounted = Arrival.stuck_uncounted
