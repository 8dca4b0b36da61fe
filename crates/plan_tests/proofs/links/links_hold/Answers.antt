-- The marks are those of the first `i` links, and none of these is in fault. Assumes nothing.
use mathlib.Core.Path.{sym, ap, ◌∙◌}
use native.Mathlib.Omega.{arith}
use lib.Dec.{eqb}
use borrow.Author.Tests.{eqb-false, ne_eqb}
use Rattle.rack.specs.Refusals.{Refusal}
use Rattle.rack.proofs.WiringFile.{wiring_at_count}
use Rattle.rack.proofs.LinkFaults.{clear_none, clear_refusal, clear_all}
use Rattle.plan_tests.proofs.Marks.{none_marked}
use Rattle.plan_tests.proofs.links.links_hold.Goals as goal

pub loop-i-init : goal.loop-i-init
loop-i-init c = (none_marked _, clear_none _)

pub returns-then-not-link_holds : goal.returns-then-not-link_holds
returns-then-not-link_holds c =
    let fault = eqb-false _ 0 (sym c.link_holds.ensures.is ∙ c.if-not-link_holds.true) in
    sym (ap (λ (x : Refusal). eqb x.number 0)
    (clear_refusal _ _ (omega (arith, wiring_at_count 6 c.args.plan.bytes.now, c.args.plan.sized.links)) c.loop-i.invariant.1 fault)
    ∙ ne_eqb _ 0 fault)

pub returns : goal.returns
returns c =
    sym (ap (λ (x : Refusal). eqb x.number 0)
    (clear_all _ _ (omega (arith, wiring_at_count 6 c.args.plan.bytes.now, c.args.plan.sized.links)) c.loop-i.invariant.1))
