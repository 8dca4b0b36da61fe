-- Bytes cut below bit k differ where their lowest k bits differ. Assumes nothing.
use native.Mathlib.Omega.{arith}
use mathlib.Core.Path.{◌∙◌}
use Rattle.counting.proofs.Bytes.{hamming_low_bits}
use Rattle.counting.proofs.places.low_hamming.Goals as goal

pub returns : goal.returns
returns c =
    let a = c.args in
    record {
      is = c.byte_hamming.ensures.is ∙ hamming_low_bits a.x a.y a.k (omega arith);
      few = c.byte_hamming.ensures.few;
    }
