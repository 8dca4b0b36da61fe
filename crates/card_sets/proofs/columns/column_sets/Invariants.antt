-- The first v words are written. Assumes nothing.
use Rattle.rack.specs.PlanFile.{plan_bit}
use Rattle.card_sets.proofs.EightColumns.{ColumnsWritten}
use Rattle.card_sets.proofs.columns.column_sets.Given as goal

abbrev pub invariant-loop-v : goal.invariant-loop-v
invariant-loop-v l = ColumnsWritten l.plan.cards (plan_bit l.plan.bytes.now) l.columns l.v
