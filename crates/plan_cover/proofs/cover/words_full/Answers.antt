-- All words agree, or one does not. Assumes nothing.
use mathlib.Core.Path.{◌≡◌, refl, ◌∙◌}
use mathlib.Core.Bool.{true, false}
use Prim.Native.Nat.{◌*◌}
use native.Mathlib.Omega.{arith}
use Rattle.std.proofs.Common.{rules, tests}
use Rattle.std.proofs.lemmas.Iterator.{cases_from_all, YieldsList-from_range}
use Rattle.plan_tests.proofs.Alls.{all_numbers}
use Rattle.plan_cover.proofs.SetLoops.{agrees, words_exactly}
use Rattle.plan_cover.proofs.cover.words_full.Goals as goal

pub returns : goal.returns
returns c =
    let n = c.args.plan.cards in
    let full = c.full_words-full in
    let ws = c.args.cover.now in
    let p = agrees n full.result ws full.ensures in
    all_numbers (4 * n) p _ (cases_from_all _ _ _ (λ x. p x ≡ true) (λ x. p x ≡ false) c.all.ensures.ran (YieldsList-from_range 0 (4 * n) (4 * n) refl (omega arith))
    (λ x q k. search (rules, tests)) (λ x q k. search (rules, tests)))
    ∙ words_exactly n full.result ws full.ensures
