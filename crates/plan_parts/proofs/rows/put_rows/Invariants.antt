-- The loop's invariant: the rows of the cards passed are appended. Assumes nothing.
use Rattle.rack.specs.Lists.{tabulate, blocks}
use Rattle.rack.specs.Putting.{Grows}
use Rattle.plan_parts.specs.Parts.{row_byte}
use Rattle.plan_parts.proofs.rows.put_rows.Given as goal

abbrev pub invariant-loop-a : goal.invariant-loop-a
invariant-loop-a l = Grows l.initial.output l.output (blocks l.a (λ i. tabulate l.wide (row_byte l.plan.bytes.now i)))
