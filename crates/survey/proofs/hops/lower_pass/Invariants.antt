-- The first i links have lowered the bounds: one link more each turn, and all m at the end. Assumes nothing.
use Rattle.rack.specs.WiringFile.{file_wiring}
use Rattle.survey.specs.Lowering.{Passed}
use Rattle.survey.proofs.hops.lower_pass.Given as goal

abbrev pub invariant-loop-i : goal.invariant-loop-i
invariant-loop-i l = Passed (file_wiring l.file.sized.bytes.now) l.initial.bounds l.bounds 0 l.i l.off
