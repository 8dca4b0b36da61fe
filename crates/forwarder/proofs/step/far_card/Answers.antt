-- The branches are the cases of the far card's definition, by the ends read. Assumes nothing.
use mathlib.Core.Path.{sym}
use native.Mathlib.Omega.{arith}
use Rattle.forwarder.proofs.Searching.{far_second, far_first, far_none}
use Rattle.forwarder.proofs.step.far_card.Goals as goal

pub returns-then-q-plan : goal.returns-then-q-plan
returns-then-q-plan c = rw c.ends-p.ensures.second (sym (far_second _ _ _ (omega arith) c.requires.1 (omega arith)))

pub returns-then-p-plan : goal.returns-then-p-plan
returns-then-p-plan c =
    rw c.ends-p.ensures.first (sym (far_first _ _ _ (omega arith) c.requires.1 (omega arith) (λ e. omega (arith, c.else-p-a.either))))

pub returns-else-q-a : goal.returns-else-q-a
returns-else-q-a c = sym (far_none _ _ _ (λ e. omega (arith, c.else-p-a.either)) (λ e. omega (arith, c.else-q-a.either)))
