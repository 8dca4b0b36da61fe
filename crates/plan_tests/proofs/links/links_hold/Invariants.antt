-- The marks are those of the first `i` links, and none of these is in fault. Assumes nothing.
use Rattle.rack.specs.PlanFile.{plan_wiring}
use Rattle.rack.proofs.LinkFaults.{ClearBefore}
use Rattle.plan_tests.specs.Marks.{LinksMarked}
use Rattle.plan_tests.proofs.links.links_hold.Given as goal

abbrev pub invariant-loop-i : goal.invariant-loop-i
invariant-loop-i l = let w = plan_wiring l.plan.bytes.now in LinksMarked w l.i l.marks × ClearBefore w l.i
