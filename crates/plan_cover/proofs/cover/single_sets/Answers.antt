-- The cards before a have their sets. Assumes nothing.
use mathlib.Core.Path.{refl}
use native.Mathlib.Omega.{arith}
use Rattle.rack.specs.Limits.{lent_words}
use Rattle.rack.proofs.Zeros.{zeros_long, zeros_at}
use Rattle.plan_cover.proofs.SetLoops.{single_next}
use Rattle.plan_cover.proofs.cover.single_sets.Goals as goal

pub loop-a-init : goal.loop-a-init
loop-a-init c = (zeros_long lent_words _ refl, (λ a t h g. absurd (omega arith)), λ x h. zeros_at lent_words _ refl x)

pub loop-a-preserved : goal.loop-a-preserved
loop-a-preserved c =
    let l = c.loop-a in
    single_next c.args.plan.cards l.a l.cover (omega arith) c.args.plan.sized.few l.invariant

pub returns : goal.returns
returns c =
    let known = c.loop-a.invariant in
    record { long = known.0; is = λ a t h g. known.1 a t (omega arith) g }
