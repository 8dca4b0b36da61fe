-- Every flagged card can be reached; each pass that goes on adds a flag, of which there are at most 256. Assumes nothing.
use Rattle.survey.specs.Flags.{flags as flag-count, Flagged}
use Rattle.rack.specs.WiringFile.{file_wiring}
use Prim.Native.Nat.{◌-◌}
use Rattle.survey.proofs.reach.reach.Given as goal

abbrev pub invariant-loop : goal.invariant-loop
invariant-loop l = Flagged (file_wiring l.file.formed.sized.bytes.now) l.flags

abbrev pub decreases-loop : goal.decreases-loop
decreases-loop l = 256 - flag-count l.flags
