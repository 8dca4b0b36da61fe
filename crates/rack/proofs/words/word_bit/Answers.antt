-- A shift and the remainder by 2 take the bit out of its word. Assumes nothing.
use mathlib.Core.Path.{refl}
use Rattle.rack.specs.Bits.{number_bit}
use Rattle.rack.specs.Words.{word_bit}
use Rattle.rack.proofs.words.word_bit.Goals as goal

pub returns : goal.returns
unfolding word_bit number_bit
returns c = refl
