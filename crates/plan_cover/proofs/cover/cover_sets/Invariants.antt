-- The words hold what the cards cover over the links before i. Assumes nothing.
use lib.ListN.{take}
use Rattle.rack.specs.PlanFile.{plan_bit, plan_wiring}
use Rattle.plan_cover.specs.Covers.{CoverWords}
use Rattle.plan_cover.proofs.cover.cover_sets.Given as goal

abbrev pub invariant-loop-i : goal.invariant-loop-i
invariant-loop-i l =
    let ps = l.plan.bytes.now in
    CoverWords l.plan.cards l.plan.columns (plan_bit ps) (take l.i (plan_wiring ps).links) l.cover
