-- The bounds are swept by the links that came. Assumes nothing.
use Rattle.rack.specs.WiringFile.{file_wiring}
use Rattle.survey.specs.Lowering.{Swept}
use Rattle.survey.proofs.hops.sweep.Given as goal

abbrev pub invariant-loop-link : goal.invariant-loop-link
invariant-loop-link g l = Swept (file_wiring l.file.sized.bytes.now) l.initial.bounds l.bounds
