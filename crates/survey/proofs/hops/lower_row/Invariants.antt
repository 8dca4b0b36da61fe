-- The first b places are lowered: one place more each turn, and 256 at the end. Assumes nothing.
use Rattle.survey.specs.Lowering.{Lowered}
use Rattle.survey.proofs.hops.lower_row.Given as goal

abbrev pub invariant-loop-b : goal.invariant-loop-b
invariant-loop-b l = Lowered l.initial.bounds l.bounds l.to l.by l.b l.off
