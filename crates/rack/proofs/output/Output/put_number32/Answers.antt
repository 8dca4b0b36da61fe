-- Four bytes are appended. Assumes nothing.
use mathlib.Core.Path.{refl}
use Rattle.rack.specs.Buffers.{two_bytes, four_bytes}
use Rattle.rack.proofs.output.Output.put_number32.Goals as goal

pub returns : goal.returns
unfolding two_bytes four_bytes
returns c = record { same = refl; room = c.put_number32.auto.output; puts = record { place = refl; adds = c.put_number32.ensures } }
