-- The first test that fails decides, and else the last one. Assumes nothing.
use mathlib.Core.Path.{sym, ◌∙◌}
use Rattle.plan_cover.proofs.AllTests.{unlinked, unordered, spare_set, first_set, all_told}
use Rattle.plan_cover.proofs.passing.tests_hold.Goals as goal
use Rattle.plan_cover.proofs.passing.tests_hold.Goals.{then-not-order_holds-via-then-not-order_holds, then-not-order_holds-via-else-not-order_holds+then-not-spare_zero, then-not-order_holds-via-else-not-order_holds+else-not-spare_zero+then-not-first_zero}

pub returns-then-not-links_hold : goal.returns-then-not-links_hold
returns-then-not-links_hold c =
    let p = c.args.plan in
    unlinked _ p.cards p.links p.columns p.sized (sym c.if-not-links_hold.true ∙ c.links_hold.ensures)

pub returns-then-not-order_holds : goal.returns-then-not-order_holds
returns-then-not-order_holds c =
    let p = c.args.plan in
    let linked = sym c.if-not-links_hold.false ∙ c.links_hold.ensures in
    elim c.then-not-order_holds.branch [
      | then-not-order_holds-via-then-not-order_holds w ↦ unordered _ p.cards p.links p.columns p.sized linked (sym w.if-not-order_holds.true ∙ c.order_holds.ensures.is)
      | then-not-order_holds-via-else-not-order_holds+then-not-spare_zero w ↦
          spare_set _ p.cards p.links p.columns p.sized linked (sym w.if-not-order_holds.false ∙ c.order_holds.ensures.is) (sym w.if-not-spare_zero.true ∙ w.spare_zero.ensures)
      | then-not-order_holds-via-else-not-order_holds+else-not-spare_zero+then-not-first_zero w ↦
          first_set _ p.cards p.links p.columns p.sized linked (sym w.if-not-order_holds.false ∙ c.order_holds.ensures.is) (sym w.if-not-first_zero.true ∙ w.first_zero.ensures)
    ]

pub returns : goal.returns
returns c =
    let p = c.args.plan in
    all_told _ p.cards p.links p.columns p.sized _ (sym c.if-not-links_hold.false ∙ c.links_hold.ensures) (sym c.if-not-order_holds.false ∙ c.order_holds.ensures.is)
    (sym c.if-not-spare_zero.false ∙ c.spare_zero.ensures) (sym c.if-not-first_zero.false ∙ c.first_zero.ensures) c.cards_covered.ensures
