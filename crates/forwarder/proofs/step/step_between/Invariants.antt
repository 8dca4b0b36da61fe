-- The loop's invariant: no link passed leads nearer. So the first that does is the step's, and where none is left the frame is stuck. Assumes nothing.
use Rattle.forwarder.specs.Parts.{NoNearer}
use Rattle.forwarder.proofs.Searching.{NoneBefore}
use Rattle.forwarder.proofs.step.step_between.Given as goal

abbrev pub invariant-loop-i : goal.invariant-loop-i
invariant-loop-i l = NoneBefore l.counted.plan.bytes.now l.a l.b l.i × NoNearer l.counted.plan.bytes.now l.b l.left l.marks
