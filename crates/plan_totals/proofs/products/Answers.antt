-- The loop's invariant: the sum is that of the first j columns' products. Assumes nothing.
use Rattle.std.proofs.Common.{◌≡◌, ℕ, sym, ◌+◌, ◌*◌, ◌-◌, ◌≤◌, Bool, arith}
use Rattle.rack.specs.Limits.{most_cards}
use Rattle.rack.specs.PlanFile.{plan_bit}
use Rattle.totals.specs.Totals.{bit_products}
use Rattle.plan_totals.proofs.Summing.{ones_few, products_none, products_more, products_few}
use Rattle.plan_totals.proofs.products.Goals as goal
use Rattle.plan_totals.proofs.products.Goals.{After-column_ones-ones}

-- one column more
module _ (c : After-column_ones-ones) where
  abbrev ones : ℕ
  ones = c.column_ones-ones.result

  abbrev bits : ℕ → ℕ → Bool
  bits = plan_bit c.args.plan.bytes.now

  abbrev cards : ℕ
  cards = c.args.plan.cards

  few_ones : ones ≤ cards
  few_ones = ones_few bits _ cards ones c.column_ones-ones.ensures

  added : c.loop-j.sum + ones * (cards - ones) ≡ bit_products bits cards (c.loop-j.j + 1)
  added = products_more bits cards c.loop-j.j c.loop-j.sum ones c.loop-j.invariant c.column_ones-ones.ensures

  few : bit_products bits cards (c.loop-j.j + 1) ≤ (c.loop-j.j + 1) * (most_cards * most_cards)
  few = products_few bits cards c.args.plan.sized.few (c.loop-j.j + 1)

pub loop-j-init : goal.loop-j-init
loop-j-init c = let p = c.args.plan in sym (products_none (plan_bit p.bytes.now) p.cards)

pub overflow_sub-sum : goal.overflow_sub-sum
overflow_sub-sum c = few_ones (goal.at.overflow_sub-sum c).After-column_ones-ones

pub overflow_add-sum : goal.overflow_add-sum
overflow_add-sum c =
    let p = (goal.at.overflow_add-sum c).After-column_ones-ones in
    omega (arith, added p, few p, c.args.plan.sized.few_columns)

pub loop-j-preserved : goal.loop-j-preserved
loop-j-preserved c = added (goal.at.loop-j-preserved c).After-column_ones-ones
