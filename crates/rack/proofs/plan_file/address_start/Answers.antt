-- The addresses of at most 256 cards have at most 32 bytes each. Assumes nothing.
use mathlib.Core.Path.{refl}
use native.Mathlib.Nat.{mul-le-mul}
use native.Mathlib.Omega.{arith}
use Rattle.rack.proofs.plan_file.address_start.Goals as goal

pub overflow_mul-result-2 : goal.overflow_mul-result-2
overflow_mul-result-2 c = omega (arith, mul-le-mul {n₂ = 256} {m₂ = 32} c.requires.2 c.requires.1)

pub overflow_add-result-2 : goal.overflow_add-result-2
overflow_add-result-2 c = omega (arith, c.requires.0, mul-le-mul {n₂ = 256} {m₂ = 32} c.requires.2 c.requires.1)

pub returns-clause-is : goal.returns-clause-is
returns-clause-is c = refl

pub returns-clause-inside : goal.returns-clause-inside
returns-clause-inside c = omega (arith, c.requires.0, mul-le-mul {n₂ = 256} {m₂ = 32} c.requires.2 c.requires.1)
