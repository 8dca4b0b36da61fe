-- The marks are those of the first `i` links, and none of these is in fault. Assumes nothing.
use Rattle.rack.specs.WiringFile.{file_wiring}
use Rattle.rack.proofs.LinkFaults.{ClearBefore}
use Rattle.survey.specs.Marks.{Marked}
use Rattle.survey.proofs.links.formed_file.Given as goal

abbrev pub invariant-loop-i : goal.invariant-loop-i
invariant-loop-i l = Marked (file_wiring l.file.bytes.now) l.i l.marks × ClearBefore (file_wiring l.file.bytes.now) l.i
