-- Two elements put anew. Assumes nothing.
use mathlib.Core.Path.{refl}
use Rattle.traffic.specs.Traffic.{with_tally}
use Rattle.traffic.proofs.Traffic.with_tally.Goals as goal

pub returns : goal.returns
unfolding with_tally
returns c = refl
