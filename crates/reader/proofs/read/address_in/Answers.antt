-- A card below n has an address, and that is the part. Assumes nothing.
use mathlib.Core.Path.{refl, sym}
use Rattle.reader.specs.Reading.{offset_unless, part_unless}
use Rattle.reader.proofs.AddressPart.{card_outside, card_inside}
use Rattle.reader.proofs.read.address_in.Goals as goal

pub returns-then-plan-c-clause-refusal : goal.returns-then-plan-c-clause-refusal
returns-then-plan-c-clause-refusal c = sym (card_outside 0 c.args.plan.cards c.args.card refl c.if-plan-c.true)

pub returns : goal.returns
unfolding offset_unless part_unless
returns c = record { part = c.address.ensures.part; refusal = sym (card_inside 0 c.args.plan.cards c.args.card refl c.if-plan-c.false) }
