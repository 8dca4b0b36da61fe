-- 1, 12 and 19 come first; else the walk by the numbers in the frame's bytes. Assumes nothing.
use Rattle.std.proofs.Common.{sym, ◌∙◌, arith}
use Rattle.std.proofs.lemmas.Result.{err_from_is_err_and}
use Rattle.rack.specs.declared.refused.Refused.TheVariants.{Lent, NoFrame}
use Rattle.rack.proofs.RefusalNumbers.{refusal_numbered}
use Rattle.callers.proofs.Refused.{lent_no_room, lent_no_plan, lent_short}
use Rattle.callers.proofs.Answers.{refused_is, lent_answered}
use Rattle.callers.proofs.Delivery.{with_lent_delivery}
use Rattle.callers.proofs.walk_lent.Goals as goal

pub returns-in_default : goal.returns-in_default
returns-in_default c =
    let holds = with_lent_delivery _ _ _ _ _ _ _ (refused_is _ _ _ _ _ _ Lent _ (lent_no_room _ _ _ _ _ c.in_default.ensures.cases)) in
    record {
      says = holds.0;
      arrives = holds.1.0;
      full = holds.1.1;
    }

pub returns-in_err-plan_layout : goal.returns-in_err-plan_layout
returns-in_err-plan_layout c =
    let p = err_from_is_err_and c.from_residual.result c.from_residual.ensures.1 in
    let number = c.in_err-plan_layout.ensures.says.number in
    let holds = with_lent_delivery _ _ _ _ _ _ _
    (refused_is _ _ _ _ _ _ _ _
    (lent_no_plan _ _ _ _ _ c.in-Some.ensures.cases.long (λ e. refusal_numbered _ (number ∙ e)) ∙ sym number)) in
    rw (p.1, p.2, c.in-Some.ensures.cases.same) (record {
      says = holds.0;
      arrives = holds.1.0;
      full = holds.1.1;
    })

pub returns-then-frame-lt-LEAST_FRAME : goal.returns-then-frame-lt-LEAST_FRAME
returns-then-frame-lt-LEAST_FRAME c =
    let holds = with_lent_delivery _ _ _ _ _ _ _
    (refused_is _ _ _ _ _ _ NoFrame _
    (lent_short _ _ _ _ _ c.in-Some.ensures.cases.long (sym c.in_ok-plan_layout.ensures.says.number) (omega (arith, c.if-frame-lt-LEAST_FRAME.true)))) in
    rw c.in-Some.ensures.cases.same (record {
      says = holds.0;
      arrives = holds.1.0;
      full = holds.1.1;
    })

pub returns : goal.returns
returns c =
    let holds = with_lent_delivery _ _ _ _ _ _ _
    (lent_answered _ _ _ _ _ _ _ c.in-Some.ensures.cases.long (sym c.in_ok-plan_layout.ensures.says.number)
    (omega (arith, c.if-frame-lt-LEAST_FRAME.false)) c.frame_goal.ensures c.frame_caller.ensures
    (rw c.in-Some.ensures.cases.same at c.walk_by_caller.ensures.says)) in
    record {
      says = holds.0;
      arrives = holds.1.0;
      full = holds.1.1;
    }
