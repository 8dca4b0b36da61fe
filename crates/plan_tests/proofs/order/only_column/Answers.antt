-- Where the addresses differ in one place, it is the lowest. Assumes nothing.
use mathlib.Core.Path.{◌≡◌, sym, ap, ◌∙◌}
use Prim.Native.Nat.{ℕ}
use Rattle.rack.specs.Columns.{hamming}
use Rattle.rack.specs.PlanFile.{plan_bit, plan_hamming}
use Rattle.plan_tests.proofs.OneColumn.{found_only, only_none}
use Rattle.plan_tests.proofs.order.only_column.Goals as goal
use Rattle.plan_tests.proofs.order.only_column.Goals.{After-hamming}

-- as many places as are counted
counted : (c : After-hamming) → let p = c.args.counted.plan in
    hamming p.columns (plan_bit p.bytes.now c.args.p) (plan_bit p.bytes.now c.args.q) ≡ c.hamming.result
unfolding plan_hamming
counted c =
    let p = c.args.counted.plan in
    ap (λ (k : ℕ). hamming k (plan_bit p.bytes.now c.args.p) (plan_bit p.bytes.now c.args.q)) p.sized.columns ∙ sym c.hamming.ensures

pub returns-then-hamming-ne1 : goal.returns-then-hamming-ne1
returns-then-hamming-ne1 c =
    let a = c.args in
    only_none a.counted.plan.columns (plan_bit a.counted.plan.bytes.now) a.p a.q (λ e.
    c.if-hamming-ne1.true (sym (counted (goal.at.returns-then-hamming-ne1 c).After-hamming) ∙ e))

pub returns : goal.returns
returns c =
    let a = c.args in
    found_only a.counted.plan.columns (plan_bit a.counted.plan.bytes.now) a.p a.q
    (counted (goal.at.returns c).After-hamming ∙ c.if-hamming-ne1.false) _ c.lowest_column.ensures
