-- The words hold the cards before c. Assumes nothing.
use mathlib.Core.Path.{◌≡◌, refl}
use native.Mathlib.Omega.{arith}
use lib.ListN.{length-set}
use Rattle.plan_cover.proofs.SetLoops.{zeros_full, full_fits, full_next}
use Rattle.plan_cover.proofs.cover.full_words.Goals as goal

pub loop-c-init : goal.loop-c-init
loop-c-init c = (refl, zeros_full)

pub overflow_add-full : goal.overflow_add-full
overflow_add-full c = record { fits = full_fits c.loop-c.c c.loop-c.full (omega (arith, c.args.plan.sized.few)) c.loop-c.invariant.1 }

pub loop-c-preserved : goal.loop-c-preserved
loop-c-preserved c =
    let l = c.loop-c in
    (simp length-set l.invariant.0, full_next l.c l.full (omega (arith, c.args.plan.sized.few)) l.invariant.1 (omega (arith, l.invariant.0, c.args.plan.sized.few)))

pub returns : goal.returns
returns c = let e : c.loop-c.c ≡ c.args.plan.cards = omega arith in rw e at c.loop-c.invariant.1
