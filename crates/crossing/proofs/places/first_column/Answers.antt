-- The search finds the lowest column that differs, if there is one. Assumes nothing.
use native.Mathlib.Omega.{arith}
use mathlib.Core.Path.{◌≡◌, sym, ap, ◌∙◌}
use Prim.Native.Nat.{ℕ}
use Rattle.rack.specs.PlanFile.{plan_bit}
use Rattle.crossing.specs.Differing.{lowest_differing, plan_differing}
use Rattle.crossing.specs.Crossing.{some_below}
use Rattle.crossing.proofs.Searching.{found_some}
use Rattle.crossing.proofs.Answers.{below_some, differing_column}
use Rattle.crossing.proofs.places.first_column.Goals as goal
use Rattle.crossing.proofs.places.first_column.Goals.{After-lowest_column}

-- how the search ended
ended : (c : After-lowest_column) → let p = c.args.plan in c.lowest_column.result ≡ some_below p.columns (plan_differing p.bytes.now c.args.a c.args.b)
unfolding lowest_differing plan_differing
ended c =
    let p = c.args.plan in
    let differing : ℕ → ℕ = λ k. lowest_differing k (plan_bit p.bytes.now c.args.a) (plan_bit p.bytes.now c.args.b) in
    found_some p.columns (differing p.columns) _ c.lowest_column.ensures ∙ ap (λ (k : ℕ). some_below p.columns (differing k)) p.sized.columns

pub returns-in_err-j : goal.returns-in_err-j
returns-in_err-j c =
    let p = c.args.plan in
    rw c.from_residual.ensures
    (differing_column p.bytes.now c.args.a c.args.b p.columns _ p.sized.columns (sym c.in_err-j.was ∙ ended (goal.at.returns-in_err-j c).After-lowest_column))

pub overflow_cast-result : goal.overflow_cast-result
overflow_cast-result c =
    let p = c.args.plan in
    omega (arith, p.sized.few_columns, below_some _ _ _ (sym c.in_ok-j.was ∙ ended (goal.at.overflow_cast-result c).After-lowest_column))

pub returns : goal.returns
returns c =
    let p = c.args.plan in
    differing_column p.bytes.now c.args.a c.args.b p.columns _ p.sized.columns (sym c.in_ok-j.was ∙ ended (goal.at.returns c).After-lowest_column)
