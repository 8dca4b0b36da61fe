-- The address stands inside the plan. Assumes nothing.
use Rattle.rack.proofs.PlanFile.{address_handed}
use Rattle.rack.proofs.views.Plan.address.Goals as goal

pub returns : goal.returns
returns c =
    let p = c.args.self in
    rw (c.address_start-start.ensures.is, c.address_size.ensures.is) (address_handed p.bytes.now p.cards p.links p.columns p.sized c.args.c c.requires p.bytes.ref_ptr)
