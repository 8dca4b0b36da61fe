-- There are at most 256 flags. Assumes nothing.
use native.Mathlib.Omega.{arith}
use Rattle.survey.proofs.Flags.{few_flags}
use Rattle.survey.proofs.reach.spread_pass.Goals as goal

pub overflow_add-moved : goal.overflow_add-moved
overflow_add-moved c = omega (arith, few_flags c.spread_link-moved.new.flags)
