-- Every byte is zero, or one is not. Assumes nothing.
use mathlib.Core.Path.{◌≡◌, refl}
use mathlib.Core.Logic.{◌≢◌}
use Prim.Native.Nat.{◌<◌}
use Rattle.std.proofs.Common.{rules, tests}
use Rattle.std.proofs.lemmas.Iterator.{cases_from_all, YieldsList-from_slice}
use Rattle.plan_tests.proofs.ZeroBytes.{first_settled}
use Rattle.plan_tests.proofs.zeros.first_zero.Goals as goal

pub returns : goal.returns
returns c =
    let z = c.args.plan in
    first_settled z.bytes c.address.result z.cards z.columns 0 z.sized.columns c.address.ensures refl z.sized.some c.requires _
    (cases_from_all _ _ _ (λ x. x ≡ 0) (λ x. (x ≢ 0) × (x < 256)) c.all.ensures.ran (YieldsList-from_slice c.address.result.now c.iter.ensures.rest)
    (λ x q k. search (rules, tests)) (λ x q k. search (rules, tests)))
