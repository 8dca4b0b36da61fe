-- The bounds stay above hops; each turn that goes on lowers their sum. Assumes nothing.
use Rattle.rack.specs.Lists.{sum}
use Rattle.rack.specs.WiringFile.{file_wiring}
use Rattle.survey.specs.Lowering.{Above}
use Rattle.survey.proofs.hops.settle.Given as goal

abbrev pub invariant-loop-formed : goal.invariant-loop-formed
invariant-loop-formed l = Above (file_wiring l.file.formed.sized.bytes.now) l.bounds

abbrev pub decreases-loop-formed : goal.decreases-loop-formed
decreases-loop-formed l = sum l.bounds
