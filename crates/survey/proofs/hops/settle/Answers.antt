-- Once a pass over every link takes nothing off, the bounds are hops. Assumes nothing.
use Rattle.survey.proofs.Passes.{passed_hops}
use Rattle.survey.proofs.hops.settle.Goals as goal

pub returns-then-lower_pass-eq0 : goal.returns-then-lower_pass-eq0
returns-then-lower_pass-eq0 c = passed_hops _ _ _ _ _ _ c.args.file.formed.formed c.lower_pass.ensures c.if-lower_pass-eq0.true
