-- There are at most 255 columns. Assumes nothing.
use Prim.Native.Nat.{◌≤◌}
use Rattle.column_guess.proofs.labels.Labels.number_labels.Given as goal

abbrev pub invariant-loop-label : goal.invariant-loop-label
invariant-loop-label l = l.k ≤ 255
