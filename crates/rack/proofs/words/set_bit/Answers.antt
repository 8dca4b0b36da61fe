-- The bit's weight is joined to its word. Assumes nothing.
use Prim.Native.Nat.{◌%◌}
use native.Mathlib.Omega.{arith}
use Rattle.rack.proofs.Bits.{word_weight}
use Rattle.rack.proofs.WordBits.{bit_more}
use Rattle.rack.proofs.words.set_bit.Goals as goal

pub returns : goal.returns
returns c = let a = c.args in rw (word_weight (a.j % 64) (omega arith)) (bit_more a.words.now a.c a.j c.told-words c.requires.0 c.requires.1)
