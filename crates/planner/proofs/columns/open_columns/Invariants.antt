-- Invariant: the words hold the columns that the first `i` links open, `k` of them, fewer than cards. Assumes nothing.
use Rattle.rack.specs.WiringFile.{file_wiring}
use Rattle.planner.specs.OpenColumns.{ColumnsOpened}
use Rattle.planner.proofs.columns.open_columns.Given as goal

abbrev pub invariant-loop-i : goal.invariant-loop-i
invariant-loop-i l = ColumnsOpened (file_wiring l.file.formed.sized.bytes.now) l.file.formed.sized.cards l.i l.words l.k
