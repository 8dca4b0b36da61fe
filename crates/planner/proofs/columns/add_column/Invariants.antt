-- Invariant: the words of the cards before `c` have their side added at place `k`, and the other words are as at entry. Assumes nothing.
use Rattle.planner.specs.OpenColumns.{ColumnAdded}
use Rattle.planner.proofs.columns.add_column.Given as goal

abbrev pub invariant-loop-c : goal.invariant-loop-c
invariant-loop-c l = ColumnAdded l.file.hops.now l.initial.words l.words l.p l.q l.k l.c
