-- `reach::spread_pass` meets its contract. The loop's invariant: the flags were spread over the first `i` links, and `moved` of them are new. Assumes nothing.
use Rattle.survey.specs.Flags.{Spread}
use Rattle.rack.specs.WiringFile.{file_wiring}
use Rattle.survey.proofs.reach.spread_pass.Given as goal

abbrev pub invariant-loop-i : goal.invariant-loop-i
invariant-loop-i l = Spread (file_wiring l.file.sized.bytes.now) l.initial.flags l.flags 0 l.i l.moved
