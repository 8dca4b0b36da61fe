-- The last byte of the card's address is not full. Assumes nothing.
use mathlib.Core.Path.{◌∙◌}
use Prim.Native.Nat.{◌%◌}
use native.Mathlib.Omega.{arith}
use Rattle.std.proofs.Common.{rules}
use Rattle.rack.proofs.Bits.{bit_weight}
use Rattle.plan_tests.proofs.ZeroBytes.{last_read, spare_byte}
use Rattle.plan_tests.proofs.zeros.spare_card.Goals as goal

pub bounds-address-whole : goal.bounds-address-whole
bounds-address-whole c =
    let z = c.args.plan in
    last_read z.bytes c.address.result z.cards z.columns c.args.c z.sized.columns c.address.ensures (λ e. c.if-address_size-whole.false (c.address_size.ensures.is ∙ e))

pub returns-else-address_size-whole : goal.returns-else-address_size-whole
returns-else-address_size-whole c =
    let z = c.args.plan in
    rw (bit_weight (z.columns % 8) (omega arith)) (spare_byte z.bytes c.address.result z.cards z.columns c.args.c z.sized.columns c.address.ensures
    (λ e. c.if-address_size-whole.false (c.address_size.ensures.is ∙ e)) (search rules))
