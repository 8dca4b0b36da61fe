-- Byte t % 8 of a word, lowest first, is what a shift by 8 times that and the remainder by 256 take out. Assumes nothing.
use mathlib.Core.Path.{ap, ◌∙◌}
use Prim.Native.Nat.{ℕ, ◌+◌, ◌*◌, ◌/◌, ◌%◌}
use native.Mathlib.Omega.{arith}
use lib.ListN.{get_or}
use Rattle.rack.proofs.Bits.{byte_weight, le_byte}
use Rattle.plan_writer.specs.Writing.{word_byte}
use Rattle.plan_writer.proofs.address_byte.Goals as goal

pub returns : goal.returns
unfolding word_byte
returns c =
    let z = get_or c.args.words.now (4 * c.args.c + c.args.t / 8) 0 in
    let i = c.args.t % 8 in
    rw c.to_le_bytes.ensures (le_byte z i (omega arith) ∙ ap (λ (w : ℕ). z / w % 256) (byte_weight i))
