-- The part is the plan's, or empty at its first byte. Assumes nothing.
use Rattle.carried.specs.Carried.{address_refusal_with, carried_bytes}
use Rattle.test_calls.proofs.Parts.{part_put}
use Rattle.test_calls.proofs.carrying.test_address_carried.Goals as goal

pub returns : goal.returns
returns c =
    let a = c.args in
    let seen = carried_bytes a.bytes.now a.cards a.links a.columns in
    let found = c.address in
    let says = rw c.opened.ensures at found.ensures in
    rw c.put_part.ensures.part
    (part_put (address_refusal_with seen a.total a.card) seen a.bytes.ref_ptr a.card found.result says.part says.refusal)
