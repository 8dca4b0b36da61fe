-- Two elements read. Assumes nothing.
use mathlib.Core.Path.{refl}
use Rattle.traffic.specs.Traffic.{tally_of}
use Rattle.traffic.proofs.Traffic.tally_of.Goals as goal

pub returns : goal.returns
unfolding tally_of
returns c = refl
