-- A refusal of the reading comes before 14. Assumes nothing.
use Rattle.std.proofs.Common.{sym, ◌∙◌}
use Rattle.std.proofs.lemmas.Result.{err_from_is_err_and}
use Rattle.reader.proofs.AddressPart.{refused_before}
use Rattle.rack.proofs.RefusalNumbers.{refusal_numbered}
use Rattle.carried.proofs.Opened.address.Goals as goal

pub returns-in_err-read-clause-refusal : goal.returns-in_err-read-clause-refusal
returns-in_err-read-clause-refusal c =
    let p = err_from_is_err_and c.from_residual.result c.from_residual.ensures.1 in
    let number = c.in_err-read.ensures.says.says.number in
    rw (p.1, p.2) (number ∙ sym (refused_before _ _ _ (λ e. refusal_numbered _ (number ∙ e))))
