-- The part is the plan's, or empty at its first byte. Assumes nothing.
use Rattle.reader.specs.Reading.{address_refusal}
use Rattle.test_calls.proofs.Parts.{part_put}
use Rattle.test_calls.proofs.test_card_address.Goals as goal

pub returns-clause-part : goal.returns-clause-part
returns-clause-part c =
    let a = c.args in
    let found = c.card_address in
    rw c.put_part.ensures.part
    (part_put (address_refusal a.plan.now a.card) a.plan.now a.plan.ref_ptr a.card found.result found.ensures.part found.ensures.refusal)
