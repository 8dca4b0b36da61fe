-- One link more has lowered the bounds each turn. Assumes nothing.
use Rattle.survey.proofs.Passes.{passed_more}
use Rattle.survey.proofs.hops.lower_pass.Goals as goal

pub loop-i-preserved : goal.loop-i-preserved
loop-i-preserved c = passed_more _ _ _ _ _ _ _ _ _ _ c.max-off.ensures c.loop-i.invariant c.lower_link-a.ensures
