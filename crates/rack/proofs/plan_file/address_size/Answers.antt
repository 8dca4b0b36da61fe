-- Eight columns a byte. Assumes nothing.
use mathlib.Core.Path.{refl}
use native.Mathlib.Omega.{arith}
use Rattle.rack.specs.PlanFile.{address_size}
use Rattle.rack.proofs.plan_file.address_size.Goals as goal

pub returns-clause-is : goal.returns-clause-is
unfolding address_size
returns-clause-is c = refl

pub returns-clause-few : goal.returns-clause-few
unfolding address_size
returns-clause-few c = omega (arith, c.requires)
