-- The words hold the cards from the eight with number u on. Assumes nothing.
use Rattle.rack.specs.PlanFile.{plan_bit}
use Rattle.card_sets.proofs.EightColumns.{EightFrom}
use Rattle.card_sets.proofs.columns.eight_columns.Given as goal

abbrev pub invariant-loop-u : goal.invariant-loop-u
invariant-loop-u l = EightFrom l.plan.cards (plan_bit l.plan.bytes.now) l.b l.t l.initial.columns l.columns l.u
