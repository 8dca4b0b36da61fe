-- 12 comes first, then the caller's number. Assumes nothing.
use Rattle.std.proofs.Common.{sym, ◌∙◌}
use Rattle.std.proofs.lemmas.Result.{err_from_is_err_and}
use Rattle.rack.proofs.RefusalNumbers.{refusal_numbered}
use Rattle.traffic.proofs.CallerRefusal.{no_plan, no_caller, caller_passes}
use Rattle.traffic.proofs.caller_fault.Goals as goal

pub returns-in_err-plan_layout : goal.returns-in_err-plan_layout
returns-in_err-plan_layout c =
    let p = err_from_is_err_and c.from_residual.result c.from_residual.ensures.1 in
    let number = c.in_err-plan_layout.ensures.says.number in
    rw (p.1, p.2) (number ∙ sym (no_plan _ _ (λ e. refusal_numbered _ (number ∙ e))))

pub returns-then-caller-ge-MOST_CALLERS : goal.returns-then-caller-ge-MOST_CALLERS
returns-then-caller-ge-MOST_CALLERS c = sym (no_caller _ _ (sym c.in_ok-plan_layout.ensures.says.number) c.if-caller-ge-MOST_CALLERS.true)

pub returns : goal.returns
returns c = sym (caller_passes _ _ (sym c.in_ok-plan_layout.ensures.says.number) c.if-caller-ge-MOST_CALLERS.false)
