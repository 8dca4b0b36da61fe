-- The cards before a have their sets. Assumes nothing.
use Rattle.plan_cover.proofs.SetLoops.{Singles}
use Rattle.plan_cover.proofs.cover.single_sets.Given as goal

abbrev pub invariant-loop-a : goal.invariant-loop-a
invariant-loop-a l = Singles l.plan.cards l.cover l.a
