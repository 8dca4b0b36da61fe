-- All cards pass, or one does not. Assumes nothing.
use mathlib.Core.Path.{◌≡◌, refl}
use mathlib.Core.Bool.{true, false}
use native.Mathlib.Omega.{arith}
use Rattle.std.proofs.Common.{rules, tests}
use Rattle.std.proofs.lemmas.Iterator.{cases_from_all, YieldsList-from_range}
use Rattle.rack.specs.PlanFile.{plan_bit}
use Rattle.plan_tests.specs.Tests.{spare_card, spare_zero}
use Rattle.plan_tests.proofs.Alls.{all_numbers}
use Rattle.plan_tests.proofs.zeros.spare_zero.Goals as goal

pub returns : goal.returns
unfolding spare_zero
returns c =
    let p = spare_card c.args.plan.columns (plan_bit c.args.plan.bytes.now) in
    let n = c.args.plan.cards in
    all_numbers n p _ (cases_from_all _ _ _ (λ x. p x ≡ true) (λ x. p x ≡ false) c.all.ensures.ran (YieldsList-from_range 0 n n refl (omega arith))
    (λ x q k. search (rules, tests)) (λ x q k. search (rules, tests)))
