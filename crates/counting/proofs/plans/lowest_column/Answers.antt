-- The bits of the two parts are those of the two cards. Assumes nothing.
use mathlib.Core.Path.{ap₂}
use native.Mathlib.Omega.{arith}
use Rattle.rack.specs.Lists.{differ}
use Rattle.rack.proofs.Tables.{lowest_ext}
use Rattle.counting.proofs.plans.lowest_column.Goals as goal

pub returns : goal.returns
returns c =
    let p = c.args.plan in
    let bits = c.address.ensures.bits in
    let others = c.address-2.ensures.bits in
    rw (lowest_ext p.columns _ _ (λ j h. ap₂ differ (bits j (omega (arith, p.sized.columns))) (others j (omega (arith, p.sized.columns))))) at c.lowest_differing.ensures
