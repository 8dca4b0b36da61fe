-- One place more is lowered each turn. Assumes nothing.
use native.Mathlib.Omega.{arith}
use Rattle.survey.proofs.Rows.{lowered_more}
use Rattle.survey.proofs.hops.lower_row.Goals as goal

pub loop-b-preserved : goal.loop-b-preserved
loop-b-preserved c = lowered_more _ _ _ _ _ _ _ _ c.loop-b.invariant (omega arith) (omega arith) (omega arith) (omega arith) c.max-off.ensures
