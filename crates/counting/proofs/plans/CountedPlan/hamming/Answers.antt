-- The bits of the two parts are those of the two cards. Assumes nothing.
use mathlib.Core.Path.{ap, ◌∙◌}
use Prim.Native.Nat.{ℕ}
use native.Mathlib.Omega.{arith}
use Rattle.rack.specs.Columns.{hamming}
use Rattle.rack.specs.PlanFile.{plan_bit, plan_hamming}
use Rattle.rack.proofs.Hamming.{hamming_ext}
use Rattle.counting.proofs.plans.CountedPlan.hamming.Goals as goal

pub returns : goal.returns
unfolding plan_hamming
returns c =
    let p = c.args.self.plan in
    let x = plan_bit p.bytes.now c.args.a in
    let y = plan_bit p.bytes.now c.args.b in
    c.bits_hamming.ensures
    ∙ hamming_ext p.columns _ _ x y (λ j h. c.address-x.ensures.bits j (omega (arith, p.sized.columns))) (λ j h. c.address-y.ensures.bits j (omega (arith, p.sized.columns)))
    ∙ ap (λ (k : ℕ). hamming k x y) p.sized.columns
