-- The rows below a hold the first bounds: one row more each turn, and all cards at the end. Assumes nothing.
use Rattle.survey.specs.Lowering.{Started}
use Rattle.survey.proofs.hops.start_bounds.Given as goal

abbrev pub invariant-loop-a : goal.invariant-loop-a
invariant-loop-a l = Started l.file.cards l.bounds l.a
