-- A refusal is handed on with zeros, and else the sizes with the sum. Assumes nothing.
use Rattle.std.proofs.Common.{refl}
use Rattle.std.proofs.lemmas.Result.{err_from_is_err_and}
use Rattle.rack.proofs.RefusalNumbers.{refusal_numbered}
use Rattle.plan_totals.proofs.Answers.{summed_refused, summed_answered}
use Rattle.plan_totals.proofs.read_summed.Goals as goal

pub returns-in_err-read-clause-says : goal.returns-in_err-read-clause-says
returns-in_err-read-clause-says c =
    let p = err_from_is_err_and c.from_residual.result c.from_residual.ensures.1 in
    rw (p.1, p.2) (summed_refused _ _ c.in_err-read.ensures.says (refusal_numbered _))

pub returns-clause-says : goal.returns-clause-says
returns-clause-says c =
    summed_answered _ _ c.in_ok-read.ensures.says refl _ (rw c.in_ok-read.ensures.bytes at c.plan_total.ensures)
