-- A refusal is handed on, another sum is 13, and else the sizes stand. Assumes nothing.
use Rattle.std.proofs.Common.{refl, arith}
use Rattle.std.proofs.lemmas.Result.{err_from_is_err_and}
use Rattle.rack.proofs.RefusalNumbers.{refusal_numbered}
use Rattle.plan_totals.proofs.Answers.{with_total_refused, with_other_total, with_that_total}
use Rattle.plan_totals.proofs.read_with_total.Goals as goal

pub returns-in_err-read-clause-says : goal.returns-in_err-read-clause-says
returns-in_err-read-clause-says c =
    let p = err_from_is_err_and c.from_residual.result c.from_residual.ensures.1 in
    rw (p.1, p.2) (with_total_refused _ _ c.in_err-read.ensures.says c.args.total (refusal_numbered _))

pub returns-then-total-sum-clause-says : goal.returns-then-total-sum-clause-says
returns-then-total-sum-clause-says c =
    with_other_total _ _ c.in_ok-read.ensures.says c.args.total refl _ (rw c.in_ok-read.ensures.bytes at c.plan_total-sum.ensures) _
    (λ e. omega arith) refl

pub returns-clause-says : goal.returns-clause-says
returns-clause-says c =
    with_that_total _ _ c.in_ok-read.ensures.says c.args.total refl _ (rw c.in_ok-read.ensures.bytes at c.plan_total-sum.ensures) (omega arith)
