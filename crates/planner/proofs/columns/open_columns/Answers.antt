-- Each link opens its column, or there is no room left, and then the later links only add columns. Assumes nothing.
use native.Mathlib.Omega.{arith}
use Rattle.planner.proofs.LinkColumns.{no_columns_opened, full_columns_opened}
use Rattle.planner.proofs.columns.open_columns.Goals as goal

pub loop-i-init : goal.loop-i-init
loop-i-init c = no_columns_opened _ _ _ c.args.file.formed.formed.sizes.some (rw c.told-words at (c.fill.ensures.after (λ y e. e)))

pub returns-in_err-k : goal.returns-in_err-k
returns-in_err-k c = rw c.from_residual.ensures (full_columns_opened _ _ _ _ (omega arith) c.in_err-k.ensures)
