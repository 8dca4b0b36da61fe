-- `reach::spread_order` meets its contract. The loop's invariant: every flagged card can be reached. Assumes nothing.
use Rattle.survey.specs.Flags.{Flagged}
use Rattle.rack.specs.WiringFile.{file_wiring}
use Rattle.survey.proofs.reach.spread_order.Given as goal

abbrev pub invariant-loop-link : goal.invariant-loop-link
invariant-loop-link l = Flagged (file_wiring l.file.formed.sized.bytes.now) l.flags
