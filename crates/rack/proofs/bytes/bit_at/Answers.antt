-- A shift and the remainder by 2 take the bit out of its byte. Assumes nothing.
use mathlib.Core.Path.{refl}
use Rattle.rack.specs.Bits.{number_bit}
use Rattle.rack.specs.PlanFile.{bit_from}
use Rattle.rack.proofs.bytes.bit_at.Goals as goal

pub returns : goal.returns
unfolding bit_from number_bit
returns c = refl
